-- Fractions that are whole numbers.
use Rattle.std.specs.Prelude.{ℤ, Option, Some, None, if◌then◌else◌, ◌==◌}
use Rattle.priz_frac.specs.Ratio.{Ratio}

-- z as a fraction
abbrev pub whole : ℤ → Ratio
whole z = record { num = z; den = 1 }

-- the number that lowest terms with the denominator 1 are
abbrev pub whole_of : Ratio → Option ℤ
whole_of x = if x.den == 1 then Some x.num else None
