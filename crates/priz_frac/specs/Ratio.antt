-- Fractions as pairs of whole numbers.
use Rattle.std.specs.Prelude.{◌≡◌, ℕ, ℤ, pos, ◌*ℤ◌}

-- a numerator and a denominator
pub record Ratio : Type 0 where
  pub num : ℤ
  pub den : ℕ

-- both are one fraction, where both denominators are positive
abbrev pub IsSame : Ratio → Ratio → Type 0
IsSame x y = x.num *ℤ pos y.den ≡ y.num *ℤ pos x.den
