-- A sign apart from the number that it stands before.
use Rattle.std.specs.Prelude.{ℕ, ℤ, pos, neg_ℤ, Bool, true, false}
use Rattle.priz_frac.specs.Ratio.{Ratio}

-- z, or -z where the sign is set
abbrev pub signed_number : Bool → ℤ → ℤ
signed_number true z = neg_ℤ z
signed_number false z = z

-- n / d, or -(n / d) where the sign is set
abbrev pub signed_ratio : Bool → ℕ → ℕ → Ratio
signed_ratio negative n d = record { num = signed_number negative (pos n); den = d }
