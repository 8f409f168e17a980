use Rattle.std.proofs.Common.{◌≡◌, ◌+◌, take}
use Rattle.worked_problems.specs.Rows.{subtask_total}
use Rattle.worked_problems.proofs.statement.has_few_subtasks.Given as goal

abbrev pub invariant-loop-row : goal.invariant-loop-row
invariant-loop-row l = subtask_total (take l.row-index l.rows) + l.left ≡ 255
