-- An expression as its plain tree.
use Rattle.std.specs.Prelude.{List, [], ◌∷◌, map}
use Rattle.utopist_syntax.specs.declared.expr.Expr.{Expr}
use Rattle.utopist_syntax.specs.declared.expr.Expr.TheOpen.{Expr-F}
use Rattle.utopist_syntax.specs.declared.expr.Expr.TheFolds.{fold-Expr}
use Rattle.utopist_syntax.specs.ExprTree.{ExprTree, ExprTrees, num, path, neg, op, choice, loop, call, none, more}

-- a list of trees, as the arguments of a call
abbrev pub expr_arguments : List ExprTree → ExprTrees
expr_arguments [] = none
expr_arguments (a ∷ rest) = more a (expr_arguments rest)

-- one node, with the trees of its parts in their places
abbrev pub expr_node : Expr-F ExprTree → ExprTree
expr_node (Expr-F.Num n) = num n
expr_node (Expr-F.Path p) = path p.parts
expr_node (Expr-F.Neg a) = neg a
expr_node (Expr-F.Op o a b) = op o a b
expr_node (Expr-F.If c a b t e) = choice c a b t e
expr_node (Expr-F.Loop kind name a b e) = loop kind name a b e
expr_node (Expr-F.Call k out place args) = call k out place (expr_arguments args)

-- an expression's tree
abbrev pub tree_of : Expr → ExprTree
tree_of = fold-Expr ExprTree expr_node

-- the trees of several expressions
abbrev pub trees_of : List Expr → ExprTrees
trees_of es = expr_arguments (map tree_of es)
