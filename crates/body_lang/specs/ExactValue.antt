-- The exact values of arithmetic, and bodies that solve an equation.
use Rattle.std.specs.Prelude.{◌≡◌, ◌<◌, ℕ, List, [], All, Ok, Err}
use Rattle.priz_frac.specs.Ratio.{Ratio, IsSame}
use Rattle.body_lang.specs.BodyTree.{BodyTree}
use Rattle.body_lang.specs.Equations.{Sides}
use Rattle.body_lang.specs.Keeping.{NumbersHave}
use Rattle.body_lang.specs.Meaning.{Calls, mean}
use Rattle.body_lang.specs.Precision.{exactly}
use Rattle.body_lang.specs.Run.{Ran}
use Rattle.body_lang.specs.Stop.{no_row}
use Rattle.body_lang.specs.Values.{value_at}

-- a pair is a fraction where its denominator is positive
abbrev pub IsFraction : Ratio → Type 0
IsFraction x = 0 < x.den

-- all numbers of an equation are fractions
abbrev pub NumbersAreFractions : Sides → Type 0
NumbersAreFractions e = NumbersHave IsFraction e.left × NumbersHave IsFraction e.right

-- no call is answered
abbrev pub no_calls : Calls
no_calls k out arguments turns = Err no_row

-- the exact meaning where each variable has its value of the row
abbrev pub exact_value : List Ratio → BodyTree → Ran
exact_value row b = mean exactly 0 no_calls row b [] 0

-- it ends in the value x
abbrev pub HasValue : List Ratio → BodyTree → Ratio → Type 0
HasValue row b x = exact_value row b ≡ Ok (x, 0)

-- in each row where both sides have values that agree, and b has a value too, that is v's
abbrev pub SolvesFor : Sides → ℕ → BodyTree → Type 0
SolvesFor e v b =
    (row : List Ratio) → All IsFraction row → (x y z : Ratio)
    → HasValue row e.left x → HasValue row e.right y → IsSame x y → HasValue row b z → IsSame z (value_at row v)
