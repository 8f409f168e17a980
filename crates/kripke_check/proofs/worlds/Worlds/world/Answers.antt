use Rattle.kripke_check.proofs.Words.{bits_at}
use Rattle.kripke_check.proofs.worlds.Worlds.world.Goals as goal

pub returns-clause-bits : goal.returns-clause-bits
returns-clause-bits c = rw (← c.self.view_is) (bits_at c.self.inside.sets c.args.i c.words.result.now c.index-as_slice-i.result (rw (← c.self.view_is) at c.requires) (rw c.as_slice.ensures at c.index-as_slice-i.is) c.words.ensures.bits)
