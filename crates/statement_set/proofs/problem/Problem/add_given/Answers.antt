use Rattle.statement_set.proofs.Growth.{given_added}
use Rattle.statement_set.proofs.problem.Problem.add_given.Goals as goal

pub invariant_of-self-2 : goal.invariant_of-self-2
invariant_of-self-2 c =
    let var = rw (← c.self.view_is) at c.requires.var in
    let fresh = rw (← c.self.view_is) at c.requires.fresh in
    rw c.in_ok-push.ensures.ok (given_added _ c.args.g c.self.invariant var fresh c.has_narrow_value.ensures)
