-- Files without their places: every place is the first one.
use Rattle.std.specs.Prelude.{map, Option, Some, None}
use Rattle.utopist_lexer.specs.Places.{first_place}
use Rattle.utopist_syntax.specs.Named.{Named}
use Rattle.utopist_syntax.specs.ExprTree.{ExprTree, ExprTrees, num, path, neg, op, choice, loop, call, none, more}
use Rattle.utopist_syntax.specs.FileTree as tree
use Rattle.utopist_syntax.specs.FileTree.{ItemTree, ConceptTree, FileTree}
use Rattle.utopist_syntax.specs.declared.path.Path.{Path}
use Rattle.utopist_syntax.specs.declared.item.VarKind.{VarKind}
use Rattle.utopist_syntax.specs.declared.item.VarKind.TheVariants.{Numeric, Of}
use Rattle.utopist_syntax.specs.declared.item.Bind.{Bind}
use Rattle.utopist_syntax.specs.declared.item.Part.{Part}
use Rattle.utopist_syntax.specs.declared.item.Part.TheVariants.{Input, Subtask}
use Rattle.utopist_syntax.specs.declared.compute.Compute.{Compute}
use Rattle.utopist_syntax.specs.declared.compute.GivenPath.{GivenPath}

-- a name
abbrev pub unplaced_name : Named → Named
unplaced_name n = record { text = n.text; place = first_place }

abbrev mutual
  -- an expression
  pub unplaced_tree : ExprTree → ExprTree
  unplaced_tree (num n) = num n
  unplaced_tree (path names) = path (map unplaced_name names)
  unplaced_tree (neg a) = neg (unplaced_tree a)
  unplaced_tree (op o a b) = op o (unplaced_tree a) (unplaced_tree b)
  unplaced_tree (choice c a b t e) = choice c (unplaced_tree a) (unplaced_tree b) (unplaced_tree t) (unplaced_tree e)
  unplaced_tree (loop kind n a b e) = loop kind (unplaced_name n) (unplaced_tree a) (unplaced_tree b) (unplaced_tree e)
  unplaced_tree (call k out place args) = call k out first_place (unplaced_trees args)

  -- the arguments of a call
  pub unplaced_trees : ExprTrees → ExprTrees
  unplaced_trees none = none
  unplaced_trees (more a rest) = more (unplaced_tree a) (unplaced_trees rest)

-- a path
abbrev pub unplaced_path : Path → Path
unplaced_path p = record { parts = map unplaced_name p.parts }

-- what a variable is
abbrev pub unplaced_kind : VarKind → VarKind
unplaced_kind Numeric = Numeric
unplaced_kind (Of n) = Of (unplaced_name n)

-- a binding
abbrev pub unplaced_bind : Bind → Bind
unplaced_bind b = record { left = unplaced_path b.left; right = unplaced_path b.right }

-- a part of a relation
abbrev pub unplaced_part : Part → Part
unplaced_part (Input p) = Input (unplaced_path p)
unplaced_part (Subtask inputs outputs) = Subtask (map unplaced_path inputs) (map unplaced_path outputs)

-- a body, where there is one
abbrev pub unplaced_body : Option ExprTree → Option ExprTree
unplaced_body None = None
unplaced_body (Some e) = Some (unplaced_tree e)

-- an item
abbrev pub unplaced_item : ItemTree → ItemTree
unplaced_item (tree.var names kind binds) = tree.var (map unplaced_name names) (unplaced_kind kind) (map unplaced_bind binds)
unplaced_item (tree.eq left right) = tree.eq (unplaced_tree left) (unplaced_tree right)
unplaced_item (tree.rel n parts output body) = tree.rel (unplaced_name n) (map unplaced_part parts) (unplaced_path output) (unplaced_body body)

-- a concept
abbrev pub unplaced_concept : ConceptTree → ConceptTree
unplaced_concept c = record { name = unplaced_name c.name; parents = map unplaced_name c.parents; items = map unplaced_item c.items }

-- what is given
abbrev pub unplaced_given : GivenPath → GivenPath
unplaced_given g = record { path = unplaced_path g.path; value = g.value }

-- a compute statement
abbrev pub unplaced_compute : Compute → Compute
unplaced_compute c = record { name = unplaced_name c.name; givens = map unplaced_given c.givens; wants = map unplaced_path c.wants }

-- a file; two files are the same but for places where these are the same
abbrev pub unplaced : FileTree → FileTree
unplaced f = record { concepts = map unplaced_concept f.concepts; computes = map unplaced_compute f.computes }
