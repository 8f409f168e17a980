-- Lowest terms.
use Rattle.std.specs.Prelude.{◌≡◌, ℕ, ◌/◌, ◌<◌, ℤ, pos, negsuc, neg_ℤ, unsigned_abs}
use Rattle.priz_frac.specs.Ratio.{Ratio}
use Rattle.priz_frac.specs.Gcd.{gcd}

-- n, or -n where z is negative
abbrev pub signed_as : ℤ → ℕ → ℤ
signed_as (pos z) n = pos n
signed_as (negsuc z) n = neg_ℤ (pos n)

-- both parts divided by g
abbrev pub divided : Ratio → ℕ → Ratio
divided x g = record { num = signed_as x.num (unsigned_abs x.num / g); den = x.den / g }

-- x in lowest terms
abbrev pub low : Ratio → Ratio
low x = divided x (gcd (unsigned_abs x.num) x.den)

-- the denominator is positive, and no number but 1 divides both parts
pub record IsLowest (x : Ratio) : Type 0 where
  pub positive : 0 < x.den
  pub coprime : gcd (unsigned_abs x.num) x.den ≡ 1
