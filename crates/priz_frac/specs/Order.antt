-- The order of fractions.
use Rattle.std.specs.Prelude.{pos, ◌*ℤ◌}
use Rattle.std.specs.Ordering.{int_cmp}
use Rattle.std.specs.declared.cmp.Ordering.{Ordering}
use Rattle.priz_frac.specs.Ratio.{Ratio}

-- by cross multiplication, where both denominators are positive
abbrev pub order_of : Ratio → Ratio → Ordering
order_of x y = int_cmp (x.num *ℤ pos y.den) (y.num *ℤ pos x.den)
