-- Calls of the sample statement's subtasks, worked out by hand.
use Rattle.std.specs.Prelude.{◌≡◌, ℕ, Err}
use Rattle.body_lang.specs.declared.op.Op.TheVariants.{Sub}
use Rattle.body_lang.specs.declared.run_fault.RunFault.TheVariants.{ZeroDivisor, Width}
use Rattle.body_lang.specs.BodyTree.{BodyTree, local, op, total, call, none, more}
use Rattle.body_lang.specs.Precision.{narrowly}
use Rattle.body_lang.specs.Sample.{sample_number, by_zero, too_wide, sample_run, gives, stops}
use Rattle.body_lang.specs.Stop.{no_row}

-- what a call asks of a subtask for one argument: an output of this number, or the first one
abbrev pub output_for : ℕ → ℕ → BodyTree → BodyTree
output_for k out a = call k out (more a none)

abbrev pub call_with : ℕ → BodyTree → BodyTree
call_with k a = output_for k 0 a

-- the squares from 1 to 4 add up to 30
abbrev pub CallsAreAnswered : Type 0
CallsAreAnswered =
    sample_run narrowly (total (sample_number 1) (sample_number 4) (call_with 0 (local 0))) 4 ≡ gives 30 0

-- the squares from 1 to 3, each less the number after its root, add up to -1 + 1 + 5
abbrev pub OutputsAreTold : Type 0
OutputsAreTold =
    sample_run narrowly (total (sample_number 1) (sample_number 3) (op Sub (call_with 0 (local 0)) (output_for 0 1 (local 0)))) 3 ≡ gives 5 0

-- of an argument's fault and the answer that there is no such row, the fault stands, the left one first
abbrev pub ArgumentsAreTakenFirst : Type 0
ArgumentsAreTakenFirst =
    (sample_run narrowly (call_with 2 (sample_number 1)) 3 ≡ Err no_row)
    × (sample_run narrowly (call_with 2 by_zero) 3 ≡ stops ZeroDivisor)
    × (sample_run narrowly (call 2 0 (more too_wide (more by_zero none))) 3 ≡ stops Width)

-- the answer has the turns that the arguments leave: two of five
abbrev pub AnswersHaveTheTurnsLeft : Type 0
AnswersHaveTheTurnsLeft =
    sample_run narrowly (call_with 1 (total (sample_number 1) (sample_number 3) (local 0))) 5 ≡ gives 2 2
