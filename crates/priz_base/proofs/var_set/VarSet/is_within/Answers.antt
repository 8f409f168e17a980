use Rattle.std.proofs.Common.{◌<◌, ◌^◌, slice_index_or, arith, refl}
use Rattle.priz_base.proofs.Words.{not_within, all_within}
use Rattle.priz_base.proofs.var_set.VarSet.is_within.Goals as goal

pub returns-then-self-i : goal.returns-then-self-i
returns-then-self-i c =
    let fits : slice_index_or c.self.inside.words c.loop-i.i 0 < 2 ^ 64 = omega arith in
    rw (← c.self.view_is, ← c.other.view_is) (λ e. absurd (cc), λ h. absurd (not_within c.self.inside.words c.other.inside.words c.loop-i.i c.loop-i-test.true fits c.if-self-i.true h))

pub returns : goal.returns
returns c =
    rw (← c.self.view_is, ← c.other.view_is) (λ e. all_within c.self.inside.words c.other.inside.words (λ k lt. c.loop-i.invariant k (omega arith)), λ h. refl)
