-- Equations solved by hand.
use Rattle.std.specs.Prelude.{◌≡◌, Some, None, pos, neg_ℤ, [], ◌∷◌}
use Rattle.priz_frac.specs.Whole.{whole}
use Rattle.body_lang.specs.declared.op.Op.TheVariants.{Add, Sub, Mul, Div}
use Rattle.body_lang.specs.BodyTree.{input, neg, op}
use Rattle.body_lang.specs.Equations.{Sides}
use Rattle.body_lang.specs.ExactValue.{HasValue}
use Rattle.body_lang.specs.Inverse.{inverse}
use Rattle.body_lang.specs.Sample.{sample_number}

-- (a - b) / c = -d, where a to d are the variables 0 to 3
abbrev pub quotient_is_negative : Sides
quotient_is_negative = record { left = op Div (op Sub (input 0) (input 1)) (input 2); right = neg (input 3) }

-- -d * c + b, a - -d * c, (a - b) / -d and -((a - b) / c)
abbrev pub EachVariableIsSolvedFor : Type 0
EachVariableIsSolvedFor =
    (inverse 0 quotient_is_negative ≡ Some (op Add (op Mul (neg (input 3)) (input 2)) (input 1)))
    × (inverse 1 quotient_is_negative ≡ Some (op Sub (input 0) (op Mul (neg (input 3)) (input 2))))
    × (inverse 2 quotient_is_negative ≡ Some (op Div (op Sub (input 0) (input 1)) (neg (input 3))))
    × (inverse 3 quotient_is_negative ≡ Some (neg (op Div (op Sub (input 0) (input 1)) (input 2))))

-- a / x = b, where a, b and x are the variables 0 to 2
abbrev pub unknown_divisor : Sides
unknown_divisor = record { left = op Div (input 0) (input 2); right = input 1 }

-- x is a / b
abbrev pub DivisorIsSolvedFor : Type 0
DivisorIsSolvedFor = inverse 2 unknown_divisor ≡ Some (op Div (input 0) (input 1))

-- in y = x * x, in x = x and in y = 2 there is no x to solve for, and no other
abbrev pub OthersAreNotSolvedFor : Type 0
OthersAreNotSolvedFor =
    (inverse 0 (record { left = input 1; right = op Mul (input 0) (input 0) }) ≡ None)
    × (inverse 0 (record { left = input 0; right = input 0 }) ≡ None)
    × (inverse 0 (record { left = input 1; right = sample_number 2 }) ≡ None)

-- for a = 1, b = 7, c = 2, d = 3 both sides of the first equation are -3, and a - -d * c is 7
abbrev pub SolvedValueIsTheVariables : Type 0
SolvedValueIsTheVariables =
    let row = whole (pos 1) ∷ whole (pos 7) ∷ whole (pos 2) ∷ whole (pos 3) ∷ [] in
    HasValue row quotient_is_negative.left (whole (neg_ℤ (pos 3)))
    × HasValue row quotient_is_negative.right (whole (neg_ℤ (pos 3)))
    × HasValue row (op Sub (input 0) (op Mul (neg (input 3)) (input 2))) (whole (pos 7))
