use Rattle.statement_set.proofs.Growth.{var_added}
use Rattle.statement_set.proofs.problem.Problem.add_var.Goals as goal

pub invariant_of-self-2 : goal.invariant_of-self-2
invariant_of-self-2 c =
    let fresh = rw (← c.self.view_is) at c.requires.fresh in
    let room = rw (← c.self.view_is) at c.requires.room in
    rw c.in_ok-add.ensures.ok (var_added _ c.args.name.now c.self.invariant room fresh)
