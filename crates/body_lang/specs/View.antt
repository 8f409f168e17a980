-- A body as its plain tree.
use Rattle.std.specs.Prelude.{List, [], ◌∷◌, map}
use Rattle.body_lang.specs.declared.body.Body.{Body}
use Rattle.body_lang.specs.declared.body.Body.TheOpen.{Body-F}
use Rattle.body_lang.specs.declared.body.Body.TheFolds.{fold-Body}
use Rattle.body_lang.specs.BodyTree.{BodyTree, BodyTrees, num, input, local, neg, op, choice, total, product, iterate, call, none, more}

-- a list of trees, as the arguments of a call
abbrev pub body_arguments : List BodyTree → BodyTrees
body_arguments [] = none
body_arguments (a ∷ rest) = more a (body_arguments rest)

-- one node, with the trees of its parts in their places
abbrev pub body_node : Body-F BodyTree → BodyTree
body_node (Body-F.Num f) = num f
body_node (Body-F.Input i) = input i
body_node (Body-F.Local j) = local j
body_node (Body-F.Neg a) = neg a
body_node (Body-F.Op o a b) = op o a b
body_node (Body-F.If c a b p q) = choice c a b p q
body_node (Body-F.Sum a b e) = total a b e
body_node (Body-F.Prod a b e) = product a b e
body_node (Body-F.Iter a b e) = iterate a b e
body_node (Body-F.Call k out args) = call k out (body_arguments args)

-- a body's tree
abbrev pub body_tree : Body → BodyTree
body_tree = fold-Body BodyTree body_node

-- the trees of several bodies
abbrev pub body_trees : List Body → BodyTrees
body_trees bs = body_arguments (map body_tree bs)
