-- Expressions as plain trees.
use Rattle.std.specs.Prelude.{ℤ, List}
use Rattle.priz_base.specs.declared.place.Place.{Place}
use Rattle.body_lang.specs.declared.op.Op.{Op}
use Rattle.body_lang.specs.declared.cmp.Cmp.{Cmp}
use Rattle.body_lang.specs.declared.loop_kind.LoopKind.{LoopKind}
use Rattle.utopist_syntax.specs.Named.{Named}

mutual
  -- an expression
  pub data ExprTree : Type 0 where
    num : ℤ → ExprTree
    path : List Named → ExprTree
    neg : ExprTree → ExprTree
    op : Op → ExprTree → ExprTree → ExprTree
    choice : Cmp → ExprTree → ExprTree → ExprTree → ExprTree → ExprTree
    loop : LoopKind → Named → ExprTree → ExprTree → ExprTree → ExprTree
    call : ℤ → ℤ → Place → ExprTrees → ExprTree

  -- the arguments of a call
  pub data ExprTrees : Type 0 where
    none : ExprTrees
    more : ExprTree → ExprTrees → ExprTrees
