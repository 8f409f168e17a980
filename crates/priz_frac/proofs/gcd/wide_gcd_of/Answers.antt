use Rattle.std.proofs.Common.{◌∙◌, sym, arith}
use Rattle.priz_frac.proofs.Divisors.{gcd-zero, gcd-step, gcd_positive}
use Rattle.priz_frac.proofs.gcd.wide_gcd_of.Goals as goal

pub loop-y-preserved : goal.loop-y-preserved
loop-y-preserved c = gcd-step c.loop-y.x c.loop-y.y (omega arith) ∙ c.loop-y.invariant

pub returns-then-y-eq0-clause-value : goal.returns-then-y-eq0-clause-value
returns-then-y-eq0-clause-value c = sym (gcd-zero c.loop-y.x c.loop-y.y (omega arith)) ∙ c.loop-y.invariant

pub returns-then-y-eq0-clause-positive : goal.returns-then-y-eq0-clause-positive
returns-then-y-eq0-clause-positive c h =
    rw (sym (gcd-zero c.loop-y.x c.loop-y.y (omega arith)) ∙ c.loop-y.invariant) (gcd_positive c.args.a c.args.b h)
