-- The names of a tree, in the order of the text.
use Rattle.std.specs.Prelude.{List, [], ◌∷◌, ◌++◌, Option, Some, None}
use Rattle.std.specs.List.{flat_map}
use Rattle.utopist_syntax.specs.Named.{Named}
use Rattle.utopist_syntax.specs.ExprTree.{ExprTree, ExprTrees, num, path, neg, op, choice, loop, call, none, more}
use Rattle.utopist_syntax.specs.FileTree.{ItemTree, ConceptTree, FileTree, var, eq, rel}
use Rattle.utopist_syntax.specs.declared.path.Path.{Path}
use Rattle.utopist_syntax.specs.declared.item.VarKind.{VarKind}
use Rattle.utopist_syntax.specs.declared.item.VarKind.TheVariants.{Numeric, Of}
use Rattle.utopist_syntax.specs.declared.item.Bind.{Bind}
use Rattle.utopist_syntax.specs.declared.item.Part.{Part}
use Rattle.utopist_syntax.specs.declared.item.Part.TheVariants.{Input, Subtask}
use Rattle.utopist_syntax.specs.declared.compute.Compute.{Compute}
use Rattle.utopist_syntax.specs.declared.compute.GivenPath.{GivenPath}

abbrev mutual
  -- those of an expression
  pub tree_names : ExprTree → List Named
  tree_names (num n) = []
  tree_names (path names) = names
  tree_names (neg a) = tree_names a
  tree_names (op o a b) = tree_names a ++ tree_names b
  tree_names (choice c a b t e) = tree_names a ++ (tree_names b ++ (tree_names t ++ tree_names e))
  tree_names (loop kind n a b e) = n ∷ (tree_names a ++ (tree_names b ++ tree_names e))
  tree_names (call k out place args) = trees_names args

  -- those of arguments
  pub trees_names : ExprTrees → List Named
  trees_names none = []
  trees_names (more a rest) = tree_names a ++ trees_names rest

-- those of paths
abbrev pub paths_names : List Path → List Named
paths_names ps = flat_map (λ p. p.parts) ps

-- that of a concept, if there is one
abbrev pub kind_names : VarKind → List Named
kind_names Numeric = []
kind_names (Of n) = n ∷ []

-- those of both paths
abbrev pub bind_names : Bind → List Named
bind_names b = b.left.parts ++ b.right.parts

-- those of a part of a relation
abbrev pub part_names : Part → List Named
part_names (Input p) = p.parts
part_names (Subtask inputs outputs) = paths_names inputs ++ paths_names outputs

-- those of a body, if there is one
abbrev pub body_names : Option ExprTree → List Named
body_names None = []
body_names (Some e) = tree_names e

-- those of an item
abbrev pub item_names : ItemTree → List Named
item_names (var names kind binds) = names ++ (kind_names kind ++ flat_map bind_names binds)
item_names (eq left right) = tree_names left ++ tree_names right
item_names (rel n parts output body) = n ∷ (flat_map part_names parts ++ (output.parts ++ body_names body))

-- those of a concept
abbrev pub names_in_concept : ConceptTree → List Named
names_in_concept c = c.name ∷ (c.parents ++ flat_map item_names c.items)

-- those of a compute statement
abbrev pub compute_names : Compute → List Named
compute_names c = c.name ∷ (flat_map (λ g. g.path.parts) c.givens ++ paths_names c.wants)

-- those of a file
abbrev pub file_names : FileTree → List Named
file_names f = flat_map names_in_concept f.concepts ++ flat_map compute_names f.computes
