-- Operators and choices, worked out by hand.
use Rattle.std.specs.Prelude.{◌≡◌, pos, neg_ℤ, Ok}
use Rattle.body_lang.specs.declared.cmp.Cmp.TheVariants.{Less, AtMost, Same}
use Rattle.body_lang.specs.declared.op.Op.TheVariants.{Add, Sub, Mul, Div}
use Rattle.body_lang.specs.declared.run_fault.RunFault.TheVariants.{ZeroDivisor, Width}
use Rattle.body_lang.specs.BodyTree.{input, neg, op, choice}
use Rattle.body_lang.specs.Precision.{narrowly, exactly}
use Rattle.body_lang.specs.Sample.{sample_number, half, by_zero, too_wide, sample_run, gives, stops}
use Rattle.priz_frac.specs.Whole.{whole}

-- 4 - 5 is -1, and -(4 - 5) is 1
abbrev pub InputsAreRead : Type 0
InputsAreRead =
    (sample_run narrowly (op Sub (input 0) (input 1)) 3 ≡ Ok (whole (neg_ℤ (pos 1)), 3))
    × (sample_run narrowly (neg (op Sub (input 0) (input 1))) 3 ≡ gives 1 3)

-- 1/2 + 1/2 is 1, 1/2 * 4 is 2, and 2 / 4 is 1/2
abbrev pub ResultsAreInLowestTerms : Type 0
ResultsAreInLowestTerms =
    (sample_run narrowly (op Add half half) 0 ≡ gives 1 0)
    × (sample_run narrowly (op Mul half (sample_number 4)) 0 ≡ gives 2 0)
    × (sample_run exactly (op Div (sample_number 2) (sample_number 4)) 0 ≡ sample_run exactly half 0)

-- 1 / 0 is a fault in both meanings
abbrev pub DivisionByZeroIsAFault : Type 0
DivisionByZeroIsAFault =
    (sample_run narrowly by_zero 3 ≡ stops ZeroDivisor) × (sample_run exactly by_zero 3 ≡ stops ZeroDivisor)

-- 2^63 - 1, plus 1, is a fault in the narrow meaning alone
abbrev pub WidthIsAFault : Type 0
WidthIsAFault =
    (sample_run narrowly too_wide 3 ≡ stops Width) × (sample_run exactly too_wide 3 ≡ gives 9223372036854775808 3)

-- of two faults the left one stands
abbrev pub LeftIsTakenFirst : Type 0
LeftIsTakenFirst =
    (sample_run narrowly (op Add by_zero too_wide) 3 ≡ stops ZeroDivisor)
    × (sample_run narrowly (op Add too_wide by_zero) 3 ≡ stops Width)

-- the branch that is not chosen has no fault; 2 < 2 fails, and 2 <= 2 and 2 = 2 hold
abbrev pub OneBranchIsTaken : Type 0
OneBranchIsTaken =
    (sample_run narrowly (choice Less (sample_number 1) (sample_number 2) (sample_number 3) by_zero) 0 ≡ gives 3 0)
    × (sample_run narrowly (choice Less (sample_number 2) (sample_number 2) by_zero (sample_number 4)) 0 ≡ gives 4 0)
    × (sample_run narrowly (choice AtMost (sample_number 2) (sample_number 2) (sample_number 3) by_zero) 0 ≡ gives 3 0)
    × (sample_run narrowly (choice Same (sample_number 2) (sample_number 2) (sample_number 3) by_zero) 0 ≡ gives 3 0)
    × (sample_run narrowly (choice Same half (sample_number 2) by_zero (sample_number 4)) 0 ≡ gives 4 0)

-- both sides of a comparison are taken, from left to right, before a branch
abbrev pub SidesAreTakenFirst : Type 0
SidesAreTakenFirst =
    (sample_run narrowly (choice Less by_zero too_wide (sample_number 1) (sample_number 2)) 0 ≡ stops ZeroDivisor)
    × (sample_run narrowly (choice Less (sample_number 1) too_wide by_zero by_zero) 0 ≡ stops Width)
