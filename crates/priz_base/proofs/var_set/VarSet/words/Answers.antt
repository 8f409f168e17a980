use Rattle.priz_base.proofs.Words.{members_bits}
use Rattle.priz_base.proofs.var_set.VarSet.words.Goals as goal

pub returns-clause-bits : goal.returns-clause-bits
returns-clause-bits c = rw (← c.self.view_is) (members_bits c.self.inside.words)
