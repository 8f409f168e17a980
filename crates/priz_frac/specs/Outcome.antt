-- What a call that may be refused gives.
use Rattle.std.specs.Prelude.{ℤ, pos, Result, Ok, Err, if◌then◌else◌}
use Rattle.std.specs.Ordering.{int_eq}
use Rattle.priz_frac.specs.declared.fault.FracFault.{FracFault}
use Rattle.priz_frac.specs.declared.fault.FracFault.TheVariants.{Width, ZeroDivisor}
use Rattle.priz_frac.specs.Ratio.{Ratio}
use Rattle.priz_frac.specs.Arithmetic.{ratio, quotient_of}
use Rattle.priz_frac.specs.Lowest.{low}
use Rattle.priz_frac.specs.Narrow.{fits}

-- x where it fits
abbrev pub fitted : Ratio → Result Ratio FracFault
fitted x = if fits x then Ok x else Err Width

-- x in lowest terms, where they fit
abbrev pub narrow : Ratio → Result Ratio FracFault
narrow x = fitted (low x)

-- n / d in lowest terms, where d is not 0 and they fit
abbrev pub narrow_ratio : ℤ → ℤ → Result Ratio FracFault
narrow_ratio n d = if int_eq d (pos 0) then Err ZeroDivisor else narrow (ratio n d)

-- x / y in lowest terms, where y is not 0 and they fit
abbrev pub narrow_quotient : Ratio → Ratio → Result Ratio FracFault
narrow_quotient x y = if int_eq y.num (pos 0) then Err ZeroDivisor else narrow (quotient_of x y)
