use Rattle.std.proofs.Common.{◌∙◌}
use Rattle.priz_frac.proofs.Divisors.{gcd-step, gcd_positive, gcd_within_right}
use Rattle.priz_frac.proofs.gcd.mixed_gcd_of.Goals as goal

pub returns-else-a-le-SHORT-clause-value : goal.returns-else-a-le-SHORT-clause-value
returns-else-a-le-SHORT-clause-value c = c.gcd_of-else-a-le-SHORT.ensures.value ∙ gcd-step c.args.a c.args.b c.requires

pub returns-else-a-le-SHORT-clause-positive : goal.returns-else-a-le-SHORT-clause-positive
returns-else-a-le-SHORT-clause-positive c =
    rw (c.gcd_of-else-a-le-SHORT.ensures.value ∙ gcd-step c.args.a c.args.b c.requires) (gcd_positive c.args.a c.args.b c.requires)

pub returns-else-a-le-SHORT-clause-within : goal.returns-else-a-le-SHORT-clause-within
returns-else-a-le-SHORT-clause-within c =
    rw (c.gcd_of-else-a-le-SHORT.ensures.value ∙ gcd-step c.args.a c.args.b c.requires) (gcd_within_right c.args.a c.args.b c.requires)
