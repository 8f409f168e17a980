-- Trees of files whose names and numbers can be spelled, form by form.
use Rattle.std.specs.Prelude.{ℤ, pos, negsuc, ◌≤◌, List, [], ◌∷◌, unsigned_abs, Option, Some, None}
use Rattle.std.specs.List.{AllByRecursion}
use Rattle.priz_frac.specs.Ratio.{Ratio}
use Rattle.utopist_lexer.specs.Lexical.{max_number}
use Rattle.utopist_syntax.specs.Named.{Named}
use Rattle.utopist_syntax.specs.ExprTree.{ExprTree, ExprTrees, num, path, neg, op, choice, loop, call, none, more}
use Rattle.utopist_syntax.specs.FileTree.{ItemTree, ConceptTree, FileTree, var, eq, rel}
use Rattle.utopist_syntax.specs.declared.path.Path.{Path}
use Rattle.utopist_syntax.specs.declared.item.VarKind.{VarKind}
use Rattle.utopist_syntax.specs.declared.item.VarKind.TheVariants.{Numeric, Of}
use Rattle.utopist_syntax.specs.declared.item.Bind.{Bind}
use Rattle.utopist_syntax.specs.declared.item.Part.{Part}
use Rattle.utopist_syntax.specs.declared.item.Part.TheVariants.{Input, Subtask}
use Rattle.utopist_syntax.specs.declared.compute.Compute.{Compute}
use Rattle.utopist_syntax.specs.declared.compute.GivenPath.{GivenPath}
pub use Rattle.canonical_reading.specs.Printable.{PrintableName}

-- one or more, and P holds of each
abbrev pub SomeAndAll : {X : Type 0} → (X → Type 0) → List X → Type 0
SomeAndAll P [] = ⊥
SomeAndAll P (x ∷ xs) = P x × AllByRecursion P xs

-- one or more names
abbrev pub PrintableNames : List Named → Type 0
PrintableNames = SomeAndAll PrintableName

-- one or more names
abbrev pub PrintablePath : Path → Type 0
PrintablePath p = PrintableNames p.parts

-- not negative, and not past the greatest number
abbrev pub PrintableNumber : ℤ → Type 0
PrintableNumber (pos n) = n ≤ max_number
PrintableNumber (negsuc n) = ⊥

abbrev mutual
  -- the names and numbers of an expression
  pub PrintableTree : ExprTree → Type 0
  PrintableTree (num n) = PrintableNumber n
  PrintableTree (path names) = PrintableNames names
  PrintableTree (neg a) = PrintableTree a
  PrintableTree (op o a b) = PrintableTree a × PrintableTree b
  PrintableTree (choice c a b t e) = PrintableTree a × PrintableTree b × PrintableTree t × PrintableTree e
  PrintableTree (loop kind n a b e) = PrintableName n × PrintableTree a × PrintableTree b × PrintableTree e
  PrintableTree (call k out place args) = PrintableNumber k × PrintableNumber out × PrintableTrees args

  -- those of arguments, if there are any
  pub PrintableTrees : ExprTrees → Type 0
  PrintableTrees none = Unit {0}
  PrintableTrees (more a rest) = PrintableTree a × PrintableTrees rest

-- the name of a concept, if there is one
abbrev pub PrintableKind : VarKind → Type 0
PrintableKind Numeric = Unit {0}
PrintableKind (Of n) = PrintableName n

-- both paths
abbrev pub PrintableBind : Bind → Type 0
PrintableBind b = PrintablePath b.left × PrintablePath b.right

-- each path; a subtask may have no inputs, and has one or more outputs
abbrev pub PrintablePart : Part → Type 0
PrintablePart (Input p) = PrintablePath p
PrintablePart (Subtask inputs outputs) = AllByRecursion PrintablePath inputs × SomeAndAll PrintablePath outputs

-- the expression, if there is one
abbrev pub PrintableBody : Option ExprTree → Type 0
PrintableBody None = Unit {0}
PrintableBody (Some e) = PrintableTree e

-- a variable has one or more names; bindings and parts may be none
abbrev pub PrintableItem : ItemTree → Type 0
PrintableItem (var names kind binds) = PrintableNames names × PrintableKind kind × AllByRecursion PrintableBind binds
PrintableItem (eq left right) = PrintableTree left × PrintableTree right
PrintableItem (rel n parts output body) = PrintableName n × AllByRecursion PrintablePart parts × PrintablePath output × PrintableBody body

-- parents and items may be none
pub record PrintableConcept (c : ConceptTree) : Type 0 where
  pub name : PrintableName c.name
  pub parents : AllByRecursion PrintableName c.parents
  pub items : AllByRecursion PrintableItem c.items

-- neither part is past the greatest number, whatever the sign
pub record PrintableFraction (x : Ratio) : Type 0 where
  pub num : unsigned_abs x.num ≤ max_number
  pub den : x.den ≤ max_number

-- the value, if there is one
abbrev pub PrintableValue : Option Ratio → Type 0
PrintableValue None = Unit {0}
PrintableValue (Some x) = PrintableFraction x

-- the path and the value
abbrev pub PrintableGiven : GivenPath → Type 0
PrintableGiven g = PrintablePath g.path × PrintableValue g.value

-- something is to be found; nothing may be given
pub record PrintableCompute (c : Compute) : Type 0 where
  pub name : PrintableName c.name
  pub givens : AllByRecursion PrintableGiven c.givens
  pub wants : SomeAndAll PrintablePath c.wants

-- each concept and each compute statement
pub record PrintableFile (f : FileTree) : Type 0 where
  pub concepts : AllByRecursion PrintableConcept f.concepts
  pub computes : AllByRecursion PrintableCompute f.computes
