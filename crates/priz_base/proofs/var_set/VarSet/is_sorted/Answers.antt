use Rattle.priz_base.proofs.Words.{members_sorted}
use Rattle.priz_base.proofs.var_set.VarSet.is_sorted.Goals as goal

pub returns : goal.returns
returns c = rw (← c.self.view_is) (members_sorted c.self.inside.words)
