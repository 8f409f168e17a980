-- A sample statement, number 7, and the runs of its bodies.
use Rattle.std.specs.Prelude.{ℕ, zero, suc, pos, neg_ℤ, [], ◌∷◌, Ok, Err}
use Rattle.priz_frac.specs.Arithmetic.{sum_of, product_of}
use Rattle.body_lang.specs.declared.op.Op.TheVariants.{Add, Div}
use Rattle.body_lang.specs.declared.run_fault.RunFault.{RunFault}
use Rattle.body_lang.specs.BodyTree.{BodyTree, num, op}
use Rattle.body_lang.specs.Meaning.{mean, Calls}
use Rattle.body_lang.specs.Precision.{Precision}
use Rattle.body_lang.specs.Run.{Ran}
use Rattle.body_lang.specs.Stop.{fault, no_row}
use Rattle.priz_frac.specs.Whole.{whole}

-- the number n
abbrev pub sample_number : ℕ → BodyTree
sample_number n = num (whole (pos n))

-- the number -n
abbrev pub minus : ℕ → BodyTree
minus n = num (whole (neg_ℤ (pos n)))

-- one half
abbrev pub half : BodyTree
half = num (record { num = pos 1; den = 2 })

-- 1 / 0
abbrev pub by_zero : BodyTree
by_zero = op Div (sample_number 1) (sample_number 0)

-- 2^63 - 1, plus 1
abbrev pub too_wide : BodyTree
too_wide = op Add (sample_number 9223372036854775807) (sample_number 1)

-- subtask 0 gives the square of its argument, and the number after it; subtask 1 tells how many turns are left; there is no other
abbrev pub sample_calls : Calls
sample_calls zero zero (x ∷ []) turns = Ok (product_of x x, turns)
sample_calls zero (suc zero) (x ∷ []) turns = Ok (sum_of x (whole (pos 1)), turns)
sample_calls (suc zero) zero arguments turns = Ok (whole (pos turns), turns)
sample_calls _ _ _ turns = Err no_row

-- a run of the body with so many turns, where the statement's inputs are 4 and 5
abbrev pub sample_run : Precision → BodyTree → ℕ → Ran
sample_run precision body turns = mean precision 7 sample_calls (whole (pos 4) ∷ whole (pos 5) ∷ []) body [] turns

-- the body ends in the number n, with so many turns left
abbrev pub gives : ℕ → ℕ → Ran
gives n left = Ok (whole (pos n), left)

-- the statement stops with this fault
abbrev pub stops : RunFault → Ran
stops kind = Err (fault 7 kind)
