use Rattle.statement_set.proofs.Models.{refutes}
use Rattle.statement_set.proofs.laws.countermodel_refutes.Goals as goal

pub returns : goal.returns
returns c = λ p G L m d. refutes p G L m d
