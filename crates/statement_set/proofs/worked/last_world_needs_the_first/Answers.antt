use Rattle.statement_set.proofs.Examples.{one_world_fails}
use Rattle.statement_set.proofs.worked.last_world_needs_the_first.Goals as goal

pub returns : goal.returns
returns c = one_world_fails
