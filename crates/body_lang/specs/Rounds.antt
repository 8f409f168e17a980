-- Loops, as recursions on the number of rounds that are left.
use Rattle.std.specs.Prelude.{ℕ, zero, suc, ℤ, pos, negsuc, ◌+ℤ◌, if◌then◌else◌, Option, Some, None, Ok, Err, int_lt}
use Rattle.std.specs.Int.{int_gap}
use Rattle.priz_frac.specs.Ratio.{Ratio}
use Rattle.body_lang.specs.declared.op.Op.{Op}
use Rattle.body_lang.specs.declared.run_fault.RunFault.TheVariants.{NotWhole, NegativeBound}
use Rattle.body_lang.specs.Precision.{Precision}
use Rattle.body_lang.specs.Operation.{operate, as_run}
use Rattle.body_lang.specs.Run.{Ran, then_with, turn_then}
use Rattle.body_lang.specs.Stop.{fault}
use Rattle.priz_frac.specs.Whole.{whole}

-- how many whole numbers there are from a to b
abbrev pub round_count : ℤ → ℤ → ℕ
round_count a b = if int_lt b a then 0 else suc (int_gap a b)

-- loops in a statement, which repeat this part
module _ (precision : Precision) (owner : ℕ) (each : Ratio → ℕ → Ran) where
  -- a turn, and then the part, at the loop's variable
  abbrev pub one_round : Ratio → ℕ → Ran
  one_round x turns = turn_then precision owner turns (λ left. each x left)

  -- so many rounds from i on, each of which the operator joins to what there is so far
  abbrev pub rounds : Op → ℕ → ℤ → Ratio → ℕ → Ran
  rounds op zero i sofar turns = Ok (sofar, turns)
  rounds op (suc count) i sofar turns =
      then_with (one_round (whole i) turns) (λ value left.
      then_with (as_run owner left (operate precision op sofar value)) (λ joined rest. rounds op count (i +ℤ pos 1) joined rest))

  -- a round for each whole number between two bounds, both of which are to be whole
  abbrev pub rounds_between : Op → Ratio → Option ℤ → Option ℤ → ℕ → Ran
  rounds_between op start (Some a) (Some b) turns = rounds op (round_count a b) a start turns
  rounds_between op start _ _ turns = Err (fault owner NotWhole)

  -- so many rounds, each of which replaces x
  abbrev pub replacements : ℕ → Ratio → ℕ → Ran
  replacements zero x turns = Ok (x, turns)
  replacements (suc count) x turns = then_with (one_round x turns) (λ value left. replacements count value left)

  -- replacements of x, whose number is to be whole and not negative
  abbrev pub replacements_for : Ratio → Option ℤ → ℕ → Ran
  replacements_for x None turns = Err (fault owner NotWhole)
  replacements_for x (Some (pos count)) turns = replacements count x turns
  replacements_for x (Some (negsuc count)) turns = Err (fault owner NegativeBound)
