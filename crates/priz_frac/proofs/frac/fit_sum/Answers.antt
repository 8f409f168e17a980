use Rattle.std.proofs.Common.{◌∙◌, sym, ap, subst}
use Rattle.priz_frac.specs.Lowest.{IsLowest}
use Rattle.priz_frac.specs.Outcome.{fitted}
use Rattle.priz_frac.proofs.Kept.{sum_is}
use Rattle.priz_frac.proofs.frac.fit_sum.Goals as goal

pub fit_signed-requires : goal.fit_signed-requires
fit_signed-requires c =
    subst IsLowest (sym (sum_is c.args.x c.args.y _ _ _ c.cross.ensures.bound c.cross-2.ensures.bound c.cross.ensures.value c.cross-2.ensures.value c.common_denominator.ensures.value)) c.requires

pub returns : goal.returns
returns c =
    c.fit_signed.ensures
    ∙ ap fitted (sum_is c.args.x c.args.y _ _ _ c.cross.ensures.bound c.cross-2.ensures.bound c.cross.ensures.value c.cross-2.ensures.value c.common_denominator.ensures.value)
