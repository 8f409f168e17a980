use Rattle.statement_set.proofs.Obeys.{one_world}
use Rattle.statement_set.proofs.laws.closed_set_refutes.Goals as goal

pub returns : goal.returns
returns c = λ p G w r. one_world p G w r
