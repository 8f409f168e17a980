use Rattle.priz_base.proofs.Words.{has_word, has_past}
use Rattle.priz_base.proofs.var_set.VarSet.has.Goals as goal

pub returns-then-word-lt16 : goal.returns-then-word-lt16
returns-then-word-lt16 c =
    rw (← c.self.view_is, ← c.v.view_is) (has_word c.self.inside.words c.v.inside.0 c.if-word-lt16.true)

pub returns-else-word-lt16 : goal.returns-else-word-lt16
returns-else-word-lt16 c =
    rw (← c.self.view_is, ← c.v.view_is) (has_past c.self.inside.words c.v.inside.0 c.if-word-lt16.false)
