use Rattle.priz_base.proofs.Words.{no_bits}
use Rattle.priz_base.proofs.var_set.VarSet.new.Goals as goal

pub returns : goal.returns
returns c = no_bits
