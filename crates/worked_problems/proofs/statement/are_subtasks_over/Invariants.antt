use Rattle.std.proofs.Common.{take}
use Rattle.std.specs.Prelude.{All}
use Rattle.statement_set.specs.Problem.{IsSubtaskOver}
use Rattle.worked_problems.specs.Rows.{row_subtask}
use Rattle.worked_problems.proofs.statement.are_subtasks_over.Given as goal

abbrev pub invariant-loop-row : goal.invariant-loop-row
invariant-loop-row l = All (λ r. IsSubtaskOver l.vars (row_subtask r)) (take l.row-index l.rows)
