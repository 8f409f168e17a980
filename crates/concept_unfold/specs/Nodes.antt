-- The nodes of an expression.
use Rattle.std.specs.Prelude.{ℕ, suc, ◌+◌, Option, Some, None}
use Rattle.utopist_syntax.specs.ExprTree.{ExprTree, num, path, neg, op, choice, loop, call}

-- how many nodes an expression has, of the forms that are built
abbrev pub nodes : ExprTree → ℕ
nodes (num n) = 1
nodes (path names) = 1
nodes (neg a) = suc (nodes a)
nodes (op o a b) = suc (nodes a + nodes b)
nodes (choice c a b t e) = suc (nodes a + nodes b + nodes t + nodes e)
nodes (loop kind n a b e) = suc (nodes a + nodes b + nodes e)
nodes (call k out place args) = 1

-- how many nodes a body has, if there is one
abbrev pub body_nodes : Option ExprTree → ℕ
body_nodes None = 0
body_nodes (Some e) = nodes e
