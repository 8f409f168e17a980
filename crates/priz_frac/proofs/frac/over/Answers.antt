use Rattle.priz_frac.proofs.Kept.{quotients_are_narrow}
use Rattle.priz_frac.proofs.frac.over.Goals as goal

pub invariant_of-result : goal.invariant_of-result
invariant_of-result c =
    quotients_are_narrow c.x.inside.num c.y.inside.den _ _ c.y.invariant.lowest.positive c.x.invariant.num_fits c.y.invariant.den_fits c.unsigned_abs.ensures.value c.gcd_of-common.ensures.value (c.gcd_of-common.ensures.within c.y.invariant.lowest.positive)
