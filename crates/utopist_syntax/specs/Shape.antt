-- The shape of what was read: where the grammar asks for one or more there is one, and numbers are not negative.
use Rattle.std.specs.Prelude.{◌≢◌, ℤ, pos, ◌≤ℤ◌, List, [], All, Option, Some, None}
use Rattle.utopist_syntax.specs.ExprTree.{ExprTree, ExprTrees, num, path, neg, op, choice, loop, call, none, more}
use Rattle.utopist_syntax.specs.FileTree.{ItemTree, ConceptTree, FileTree, var, eq, rel}
use Rattle.utopist_syntax.specs.declared.path.Path.{Path}
use Rattle.utopist_syntax.specs.declared.item.Bind.{Bind}
use Rattle.utopist_syntax.specs.declared.item.Part.{Part}
use Rattle.utopist_syntax.specs.declared.item.Part.TheVariants.{Input, Subtask}
use Rattle.utopist_syntax.specs.declared.compute.Compute.{Compute}
use Rattle.utopist_syntax.specs.declared.compute.GivenPath.{GivenPath}

-- a path has a name
abbrev pub HasName : Path → Type 0
HasName p = p.parts ≢ []

-- one or more paths, each with a name
abbrev pub AreSomePaths : List Path → Type 0
AreSomePaths ps = (ps ≢ []) × All HasName ps

abbrev mutual
  -- paths have names, a call has arguments, and numbers are not negative
  pub HasExprShape : ExprTree → Type 0
  HasExprShape (num n) = pos 0 ≤ℤ n
  HasExprShape (path names) = names ≢ []
  HasExprShape (neg a) = HasExprShape a
  HasExprShape (op o a b) = HasExprShape a × HasExprShape b
  HasExprShape (choice c a b t e) = HasExprShape a × HasExprShape b × HasExprShape t × HasExprShape e
  HasExprShape (loop kind n a b e) = HasExprShape a × HasExprShape b × HasExprShape e
  HasExprShape (call k out place args) = (pos 0 ≤ℤ k) × (pos 0 ≤ℤ out) × (args ≢ none) × HaveExprShape args

  -- those of arguments
  pub HaveExprShape : ExprTrees → Type 0
  HaveExprShape none = Unit {0}
  HaveExprShape (more a rest) = HasExprShape a × HaveExprShape rest

-- a body, if there is one
abbrev pub HasBodyShape : Option ExprTree → Type 0
HasBodyShape None = Unit {0}
HasBodyShape (Some e) = HasExprShape e

-- both paths of a binding have names
abbrev pub HasBindShape : Bind → Type 0
HasBindShape b = HasName b.left × HasName b.right

-- a subtask has inputs and outputs
abbrev pub HasPartShape : Part → Type 0
HasPartShape (Input p) = HasName p
HasPartShape (Subtask inputs outputs) = AreSomePaths inputs × AreSomePaths outputs

-- variables are declared by one or more names
abbrev pub HasItemShape : ItemTree → Type 0
HasItemShape (var names kind binds) = (names ≢ []) × All HasBindShape binds
HasItemShape (eq left right) = HasExprShape left × HasExprShape right
HasItemShape (rel n parts output body) = All HasPartShape parts × HasName output × HasBodyShape body

-- each of its items
abbrev pub HasConceptShape : ConceptTree → Type 0
HasConceptShape c = All HasItemShape c.items

-- something is wanted, and what is given and wanted has names
pub record HasComputeShape (c : Compute) : Type 0 where
  pub givens : All (λ g. HasName g.path) c.givens
  pub wants : AreSomePaths c.wants

-- each of its concepts and compute statements
pub record HasShape (f : FileTree) : Type 0 where
  pub concepts : All HasConceptShape f.concepts
  pub computes : All HasComputeShape f.computes
