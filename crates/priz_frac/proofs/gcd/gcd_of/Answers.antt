use Rattle.std.proofs.Common.{◌∙◌, sym, arith, ℕ, ap}
use Rattle.priz_frac.specs.Gcd.{gcd}
use Rattle.priz_frac.proofs.Divisors.{gcd_comm, gcd-zero, gcd-one, gcd-step, gcd_positive, gcd_within_right}
use Rattle.priz_frac.proofs.gcd.gcd_of.Goals as goal
use Rattle.priz_frac.proofs.gcd.gcd_of.Goals.{then-a-b, else-a-b}

pub loop-y-init : goal.loop-y-init
loop-y-init c =
    elim c.if-a-b.branch [
      | then-a-b w ↦ ap (λ (p : ℕ × ℕ). gcd p.0 p.1) w.x-is ∙ gcd_comm c.args.b c.args.a
      | else-a-b w ↦ ap (λ (p : ℕ × ℕ). gcd p.0 p.1) w.x-is
    ]

pub loop-y-preserved : goal.loop-y-preserved
loop-y-preserved c = gcd-step c.loop-y.x c.loop-y.y (omega arith) ∙ c.loop-y.invariant

pub returns-then-y-eq1-clause-value : goal.returns-then-y-eq1-clause-value
returns-then-y-eq1-clause-value c = sym (gcd-one c.loop-y.x c.loop-y.y (omega arith)) ∙ c.loop-y.invariant

pub returns-else-y-eq1-clause-value : goal.returns-else-y-eq1-clause-value
returns-else-y-eq1-clause-value c = sym (gcd-zero c.loop-y.x c.loop-y.y (omega arith)) ∙ c.loop-y.invariant

pub returns-else-y-eq1-clause-positive : goal.returns-else-y-eq1-clause-positive
returns-else-y-eq1-clause-positive c h =
    rw (sym (gcd-zero c.loop-y.x c.loop-y.y (omega arith)) ∙ c.loop-y.invariant) (gcd_positive c.args.a c.args.b h)

pub returns-else-y-eq1-clause-within : goal.returns-else-y-eq1-clause-within
returns-else-y-eq1-clause-within c h =
    rw (sym (gcd-zero c.loop-y.x c.loop-y.y (omega arith)) ∙ c.loop-y.invariant) (gcd_within_right c.args.a c.args.b h)
