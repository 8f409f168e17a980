-- Loops, worked out by hand.
use Rattle.std.specs.Prelude.{◌≡◌}
use Rattle.body_lang.specs.declared.op.Op.TheVariants.{Add, Mul}
use Rattle.body_lang.specs.declared.run_fault.RunFault.TheVariants.{ZeroDivisor, Width, NotWhole, NegativeBound, Turns}
use Rattle.body_lang.specs.BodyTree.{BodyTree, local, op, total, product, iterate}
use Rattle.body_lang.specs.Precision.{narrowly, exactly}
use Rattle.body_lang.specs.Sample.{sample_number, minus, half, by_zero, sample_run, gives, stops}

-- 1 + 2 + 3 + 4
abbrev pub sum_to_four : BodyTree
sum_to_four = total (sample_number 1) (sample_number 4) (local 0)

-- a sum of four rounds takes four turns, and stops where there are three
abbrev pub RoundsTakeTurns : Type 0
RoundsTakeTurns =
    (sample_run narrowly sum_to_four 4 ≡ gives 10 0)
    × (sample_run narrowly sum_to_four 6 ≡ gives 10 2)
    × (sample_run narrowly sum_to_four 3 ≡ stops Turns)

-- a round takes its turn before its part, and the loop stops at the turns however many rounds it has
abbrev pub TurnComesBeforePart : Type 0
TurnComesBeforePart =
    (sample_run narrowly (total (sample_number 1) (sample_number 1) by_zero) 0 ≡ stops Turns)
    × (sample_run narrowly (total (sample_number 1) (sample_number 1) by_zero) 1 ≡ stops ZeroDivisor)
    × (sample_run narrowly (total (sample_number 1) (sample_number 4611686018427387904) (local 0)) 10 ≡ stops Turns)

-- the squares from -2 to 2 add up to 10, and the product from 1 to 5 is 120
abbrev pub EachNumberHasARound : Type 0
EachNumberHasARound =
    (sample_run narrowly (total (minus 2) (sample_number 2) (op Mul (local 0) (local 0))) 5 ≡ gives 10 0)
    × (sample_run narrowly (product (sample_number 1) (sample_number 5) (local 0)) 5 ≡ gives 120 0)

-- where the second bound is less, a sum is 0 and a product 1, and no turn is taken
abbrev pub EmptyLoopsTakeNoTurn : Type 0
EmptyLoopsTakeNoTurn =
    (sample_run narrowly (total (sample_number 2) (sample_number 1) by_zero) 0 ≡ gives 0 0)
    × (sample_run narrowly (product (sample_number 2) (sample_number 1) by_zero) 0 ≡ gives 1 0)
    × (sample_run narrowly (iterate half (sample_number 0) by_zero) 0 ≡ sample_run narrowly half 0)

-- both bounds are taken before one of them is found not to be whole
abbrev pub BoundsAreWhole : Type 0
BoundsAreWhole =
    (sample_run narrowly (total half (sample_number 3) (local 0)) 9 ≡ stops NotWhole)
    × (sample_run narrowly (product (sample_number 3) half (local 0)) 9 ≡ stops NotWhole)
    × (sample_run narrowly (total half by_zero (local 0)) 9 ≡ stops ZeroDivisor)
    × (sample_run exactly (iterate (sample_number 1) half (local 0)) 9 ≡ stops NotWhole)

-- 1/2, doubled three times, is 4; it is replaced no fewer than 0 times
abbrev pub ReplacementsAreCounted : Type 0
ReplacementsAreCounted =
    (sample_run narrowly (iterate half (sample_number 3) (op Add (local 0) (local 0))) 3 ≡ gives 4 0)
    × (sample_run narrowly (iterate half (sample_number 3) (op Add (local 0) (local 0))) 2 ≡ stops Turns)
    × (sample_run narrowly (iterate half (minus 1) (local 0)) 9 ≡ stops NegativeBound)

-- the sum over i from 1 to 2 of the sum over j from 1 to i of 10 * i + j is 11 + 21 + 22, in 2 + 1 + 2 turns
abbrev pub LoopsAreNested : Type 0
LoopsAreNested =
    sample_run narrowly (total (sample_number 1) (sample_number 2) (total (sample_number 1) (local 0) (op Add (op Mul (sample_number 10) (local 0)) (local 1)))) 5 ≡ gives 54 0

-- the exact meaning takes no turns, and its sums pass the width
abbrev pub ExactLoopsGoOn : Type 0
ExactLoopsGoOn =
    (sample_run exactly sum_to_four 0 ≡ gives 10 0)
    × (sample_run narrowly (total (sample_number 1) (sample_number 2) (sample_number 9223372036854775807)) 9 ≡ stops Width)
    × (sample_run exactly (total (sample_number 1) (sample_number 2) (sample_number 9223372036854775807)) 9 ≡ gives 18446744073709551614 9)
