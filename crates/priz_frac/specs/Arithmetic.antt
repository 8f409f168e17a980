-- Arithmetic on fractions that need not be in lowest terms.
use Rattle.std.specs.Prelude.{suc, ◌*◌, ℤ, pos, negsuc, ◌+ℤ◌, ◌-ℤ◌, ◌*ℤ◌, neg_ℤ}
use Rattle.priz_frac.specs.Ratio.{Ratio}

-- x + y
abbrev pub sum_of : Ratio → Ratio → Ratio
sum_of x y = record { num = x.num *ℤ pos y.den +ℤ y.num *ℤ pos x.den; den = x.den * y.den }

-- x - y
abbrev pub difference_of : Ratio → Ratio → Ratio
difference_of x y = record { num = x.num *ℤ pos y.den -ℤ y.num *ℤ pos x.den; den = x.den * y.den }

-- x · y
abbrev pub product_of : Ratio → Ratio → Ratio
product_of x y = record { num = x.num *ℤ y.num; den = x.den * y.den }

-- -x
abbrev pub negative_of : Ratio → Ratio
negative_of x = record { num = neg_ℤ x.num; den = x.den }

-- n / d where d is not 0, with both signs turned where d is negative
abbrev pub ratio : ℤ → ℤ → Ratio
ratio n (pos d) = record { num = n; den = d }
ratio n (negsuc d) = record { num = neg_ℤ n; den = suc d }

-- 1 / x where x is not 0
abbrev pub inverse_of : Ratio → Ratio
inverse_of x = ratio (pos x.den) x.num

-- x / y where y is not 0
abbrev pub quotient_of : Ratio → Ratio → Ratio
quotient_of x y = ratio (x.num *ℤ pos y.den) (y.num *ℤ pos x.den)
