use Rattle.proof_term.proofs.Pushes.{steps_of-push}
use Rattle.proof_term.proofs.block.Block.push.Goals as goal

pub returns-clause-ok : goal.returns-clause-ok
returns-clause-ok c = rw (← c.self.view_is) (rw c.in_ok-push.ensures.ok (steps_of-push c.self.inside.steps c.args.s))
