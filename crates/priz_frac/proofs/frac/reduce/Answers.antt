use Rattle.priz_frac.proofs.Lowest.{lowest_signed}
use Rattle.priz_frac.proofs.frac.reduce.Goals as goal

pub fit-requires : goal.fit-requires
fit-requires c = lowest_signed c.args.negative c.args.n c.args.d _ _ _ c.requires c.wide_gcd_of-g.ensures.value c.quotient.ensures c.quotient-2.ensures
