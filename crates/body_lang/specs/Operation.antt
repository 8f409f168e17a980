-- Operators and comparisons of values.
use Rattle.std.specs.Prelude.{ℕ, pos, Bool, if◌then◌else◌, Result, Ok, Err}
use Rattle.std.specs.Ordering.{is_eq, is_lt, is_le, int_eq}
use Rattle.priz_frac.specs.declared.fault.FracFault.{FracFault}
use Rattle.priz_frac.specs.declared.fault.FracFault.TheVariants as frac
use Rattle.priz_frac.specs.Ratio.{Ratio}
use Rattle.priz_frac.specs.Arithmetic.{sum_of, difference_of, product_of, quotient_of}
use Rattle.priz_frac.specs.Lowest.{low}
use Rattle.priz_frac.specs.Order.{order_of}
use Rattle.priz_frac.specs.Outcome.{narrow}
use Rattle.body_lang.specs.declared.cmp.Cmp.{Cmp}
use Rattle.body_lang.specs.declared.cmp.Cmp.TheVariants.{Less, AtMost, Same}
use Rattle.body_lang.specs.declared.op.Op.{Op}
use Rattle.body_lang.specs.declared.op.Op.TheVariants.{Add, Sub, Mul, Div}
use Rattle.body_lang.specs.declared.run_fault.RunFault.{RunFault}
use Rattle.body_lang.specs.declared.run_fault.RunFault.TheVariants.{ZeroDivisor, Width}
use Rattle.body_lang.specs.Precision.{Precision, narrowly, exactly}
use Rattle.body_lang.specs.Run.{Ran}
use Rattle.body_lang.specs.Stop.{fault}

-- x in lowest terms, which equal fractions share; narrowly, where they fit
abbrev pub value_in : Precision → Ratio → Result Ratio FracFault
value_in narrowly x = narrow x
value_in exactly x = Ok (low x)

-- the operator's value
abbrev pub operate : Precision → Op → Ratio → Ratio → Result Ratio FracFault
operate precision Add x y = value_in precision (sum_of x y)
operate precision Sub x y = value_in precision (difference_of x y)
operate precision Mul x y = value_in precision (product_of x y)
operate precision Div x y = if int_eq y.num (pos 0) then Err frac.ZeroDivisor else value_in precision (quotient_of x y)

-- what a fault of arithmetic is in a run
abbrev pub run_fault : FracFault → RunFault
run_fault frac.Width = Width
run_fault frac.ZeroDivisor = ZeroDivisor

-- an operator's value, or its fault in the statement
abbrev pub as_run : ℕ → ℕ → Result Ratio FracFault → Ran
as_run owner turns (Ok value) = Ok (value, turns)
as_run owner turns (Err e) = Err (fault owner (run_fault e))

-- the comparison holds of x and y
abbrev pub holds : Cmp → Ratio → Ratio → Bool
holds Less x y = is_lt (order_of x y)
holds AtMost x y = is_le (order_of x y)
holds Same x y = is_eq (order_of x y)
