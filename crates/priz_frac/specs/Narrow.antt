-- Fractions of bounded width.
use Rattle.std.specs.Prelude.{ℕ, ◌-◌, ◌^◌, ◌≤◌, unsigned_abs, Bool, ◌&&◌, nat_le}
use Rattle.priz_frac.specs.Ratio.{Ratio}
use Rattle.priz_frac.specs.Lowest.{IsLowest}

-- the greatest part of a fraction
abbrev pub widest : ℕ
widest = 2 ^ 63 - 1

-- neither part is past it, whatever the sign
abbrev pub fits : Ratio → Bool
fits x = nat_le (unsigned_abs x.num) widest && nat_le x.den widest

-- lowest terms that fit
pub record IsNarrow (x : Ratio) : Type 0 where
  pub lowest : IsLowest x
  pub num_fits : unsigned_abs x.num ≤ widest
  pub den_fits : x.den ≤ widest
