-- Values by their numbers.
use Rattle.std.specs.Prelude.{ℕ, pos, List, slice_get, unwrap_or}
use Rattle.priz_frac.specs.Ratio.{Ratio}
use Rattle.priz_frac.specs.Whole.{whole}

-- the value of this number; 0 past the end. A checked body has no input past its inputs, and no local past the loops around it
abbrev pub value_at : List Ratio → ℕ → Ratio
value_at values i = unwrap_or (slice_get values i) (whole (pos 0))
