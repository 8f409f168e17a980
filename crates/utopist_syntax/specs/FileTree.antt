-- Files as plain trees.
use Rattle.std.specs.Prelude.{List, map, Option, Some, None}
use Rattle.utopist_syntax.specs.declared.path.Path.{Path}
use Rattle.utopist_syntax.specs.declared.expr.Expr.{Expr}
use Rattle.utopist_syntax.specs.declared.item.Item.{Item}
use Rattle.utopist_syntax.specs.declared.item.Item.TheVariants.{Var, Eq, Rel}
use Rattle.utopist_syntax.specs.declared.item.VarKind.{VarKind}
use Rattle.utopist_syntax.specs.declared.item.Bind.{Bind}
use Rattle.utopist_syntax.specs.declared.item.Part.{Part}
use Rattle.utopist_syntax.specs.declared.concept.Concept.{Concept}
use Rattle.utopist_syntax.specs.declared.compute.Compute.{Compute}
use Rattle.utopist_syntax.specs.declared.file.File.{File}
use Rattle.utopist_syntax.specs.Named.{Named}
use Rattle.utopist_syntax.specs.ExprTree.{ExprTree}
use Rattle.utopist_syntax.specs.View.{tree_of}

-- an item of a concept
pub data ItemTree : Type 0 where
  var : List Named → VarKind → List Bind → ItemTree
  eq : ExprTree → ExprTree → ItemTree
  rel : Named → List Part → Path → Option ExprTree → ItemTree

-- a concept
pub record ConceptTree : Type 0 where
  pub name : Named
  pub parents : List Named
  pub items : List ItemTree

-- a file
pub record FileTree : Type 0 where
  pub concepts : List ConceptTree
  pub computes : List Compute

-- the tree of a body, where there is one
abbrev pub body_expr_tree : Option Expr → Option ExprTree
body_expr_tree None = None
body_expr_tree (Some e) = Some (tree_of e)

-- an item's tree
abbrev pub item_tree : Item → ItemTree
item_tree (Var names kind binds) = var names kind binds
item_tree (Eq left right) = eq (tree_of left) (tree_of right)
item_tree (Rel name parts output body) = rel name parts output (body_expr_tree body)

-- a concept's tree
abbrev pub concept_tree : Concept → ConceptTree
concept_tree c = record { name = c.name; parents = c.parents; items = map item_tree c.items }

-- a file's tree
abbrev pub file_tree : File → FileTree
file_tree f = record { concepts = map concept_tree f.concepts; computes = f.computes }
