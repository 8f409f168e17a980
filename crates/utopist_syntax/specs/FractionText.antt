-- The text of a fraction in lowest terms.
use Rattle.std.specs.Prelude.{ℕ, List, [], ◌++◌, codes, decimal, ◌==◌, if◌then◌else◌}
use Rattle.std.specs.Fmt.{signed_decimal}
use Rattle.priz_frac.specs.Ratio.{Ratio}

-- its numerator, and behind "/" its denominator; a whole number has no denominator
abbrev pub fraction_text : Ratio → List ℕ
fraction_text x = signed_decimal x.num ++ (if x.den == 1 then [] else codes "/" ++ decimal x.den)
