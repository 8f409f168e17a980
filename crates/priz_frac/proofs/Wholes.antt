-- Whole numbers are in lowest terms.
use Rattle.std.proofs.Common.{ℤ, ◌≤◌, refl, arith}
use Rattle.std.specs.Prelude.{unsigned_abs}
use Rattle.priz_frac.specs.Gcd.{gcd}
use Rattle.priz_frac.specs.Narrow.{widest, IsNarrow}
use Rattle.priz_frac.specs.Whole.{whole}

pub whole_is_narrow : (z : ℤ) → unsigned_abs z ≤ widest → IsNarrow (whole z)
unfolding gcd
whole_is_narrow z h = record {
  lowest = record { positive = omega arith; coprime = refl };
  num_fits = h;
  den_fits = omega arith;
}
