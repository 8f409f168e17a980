-- The plain tree of a block's rows.
use Rattle.std.specs.Prelude.{ℕ, List, [], ◌∷◌, map, Option, Some, None}
use Rattle.proof_term.specs.declared.step.Sub.{Sub}
use Rattle.proof_term.specs.declared.step.Sub.TheVariants.{Known, Body}
use Rattle.proof_term.specs.Proof.{Steps, done, step, Subs, no_more, known, block}
use Rattle.worked_problems.specs.declared.block.StepRow.{StepRow}
use Rattle.worked_problems.specs.declared.block.SubRow.{SubRow}
use Rattle.worked_problems.specs.declared.block.SubRow.TheOpen.{SubRow-F, StepRow-F}
use Rattle.worked_problems.specs.declared.block.SubRow.TheFolds.{fold-SubRow, fold-StepRow}

-- answers, each of which is known or a block
abbrev pub answers_from : List (Option Steps) → Subs
answers_from [] = no_more
answers_from (None ∷ more) = known (answers_from more)
answers_from (Some b ∷ more) = block b (answers_from more)

-- steps, each with its statement and its answers
abbrev pub steps_from : List (ℕ × Subs) → Steps
steps_from [] = done
steps_from (s ∷ more) = step s.0 s.1 (steps_from more)

-- one row, with what the rows in it give in their places
abbrev pub answer_from : SubRow-F (Option Steps) (ℕ × Subs) → Option Steps
answer_from SubRow-F.Known = None
answer_from (SubRow-F.Body steps) = Some (steps_from steps.now)

abbrev pub step_from : StepRow-F (Option Steps) (ℕ × Subs) → ℕ × Subs
step_from s = (s.stmt, answers_from s.subs.now)

-- the answer of a row: none where it is known
abbrev pub row_answer : SubRow → Option Steps
row_answer = fold-SubRow (Option Steps) (ℕ × Subs) answer_from step_from

-- the step of a row
abbrev pub row_step : StepRow → ℕ × Subs
row_step = fold-StepRow (Option Steps) (ℕ × Subs) answer_from step_from

-- an answer of a block: none where it is known
abbrev pub answer_of : Sub → Option Steps
answer_of Known = None
answer_of (Body b) = Some b

-- the answers of a step's rows
abbrev pub row_subs : List SubRow → Subs
row_subs rows = answers_from (map row_answer rows)

-- the steps of a block's rows
abbrev pub row_steps : List StepRow → Steps
row_steps rows = steps_from (map row_step rows)
