use Rattle.std.proofs.Common.{length, ap, arith}
use Rattle.statement_set.specs.declared.statement.Statement.{Statement}
use Rattle.statement_set.proofs.Growth.{few_subs}
use Rattle.statement_set.proofs.problem.Problem.subs.Goals as goal

pub overflow_cast-result : goal.overflow_cast-result
overflow_cast-result c =
    let lt = rw (← c.self.view_is) at c.requires in
    let few = few_subs _ c.as_slice.result.now c.args.s c.index-as_slice-s.result c.self.invariant c.as_slice.ensures lt c.index-as_slice-s.is in
    omega (arith, c.len.ensures, ap (λ (s : Statement). length s.subs) c.statement.view_is, few)
