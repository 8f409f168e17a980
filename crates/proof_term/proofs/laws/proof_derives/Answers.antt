use Rattle.proof_term.proofs.Blocks.{derivable}
use Rattle.proof_term.proofs.laws.proof_derives.Goals as goal

pub returns : goal.returns
returns c = λ p G b d. derivable p G b d
