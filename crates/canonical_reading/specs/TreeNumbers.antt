-- The numbers of a tree, in the order of the text.
use Rattle.std.specs.Prelude.{ℤ, pos, List, [], ◌∷◌, ◌++◌, Option, Some, None}
use Rattle.std.specs.List.{flat_map}
use Rattle.priz_frac.specs.Ratio.{Ratio}
use Rattle.utopist_syntax.specs.ExprTree.{ExprTree, ExprTrees, num, path, neg, op, choice, loop, call, none, more}
use Rattle.utopist_syntax.specs.FileTree.{ItemTree, ConceptTree, FileTree, var, eq, rel}
use Rattle.utopist_syntax.specs.declared.compute.Compute.{Compute}

abbrev mutual
  -- those of an expression
  pub tree_numbers : ExprTree → List ℤ
  tree_numbers (num n) = n ∷ []
  tree_numbers (path names) = []
  tree_numbers (neg a) = tree_numbers a
  tree_numbers (op o a b) = tree_numbers a ++ tree_numbers b
  tree_numbers (choice c a b t e) = tree_numbers a ++ (tree_numbers b ++ (tree_numbers t ++ tree_numbers e))
  tree_numbers (loop kind n a b e) = tree_numbers a ++ (tree_numbers b ++ tree_numbers e)
  tree_numbers (call k out place args) = k ∷ out ∷ trees_numbers args

  -- those of arguments
  pub trees_numbers : ExprTrees → List ℤ
  trees_numbers none = []
  trees_numbers (more a rest) = tree_numbers a ++ trees_numbers rest

-- those of a body, if there is one
abbrev pub body_numbers : Option ExprTree → List ℤ
body_numbers None = []
body_numbers (Some e) = tree_numbers e

-- those of an item
abbrev pub item_numbers : ItemTree → List ℤ
item_numbers (var names kind binds) = []
item_numbers (eq left right) = tree_numbers left ++ tree_numbers right
item_numbers (rel n parts output body) = body_numbers body

-- those of a concept
abbrev pub concept_numbers : ConceptTree → List ℤ
concept_numbers c = flat_map item_numbers c.items

-- both parts of a value, if there is one
abbrev pub value_numbers : Option Ratio → List ℤ
value_numbers None = []
value_numbers (Some x) = x.num ∷ pos x.den ∷ []

-- those of a compute statement
abbrev pub compute_numbers : Compute → List ℤ
compute_numbers c = flat_map (λ g. value_numbers g.value) c.givens

-- those of a file
abbrev pub file_numbers : FileTree → List ℤ
file_numbers f = flat_map concept_numbers f.concepts ++ flat_map compute_numbers f.computes
