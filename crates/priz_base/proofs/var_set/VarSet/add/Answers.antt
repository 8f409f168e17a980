use Rattle.priz_base.proofs.Words.{add_word}
use Rattle.std.proofs.Common.{◌<◌}
use Rattle.priz_base.proofs.var_set.VarSet.add.Goals as goal

pub returns : goal.returns
returns c =
    let lt : c.v.inside.0 < 1024 = rw (c.v.view_is) c.requires in
    rw (← c.self.view_is, ← c.v.view_is) (add_word c.self.inside.words c.v.inside.0 c.self.told lt)
