use Rattle.std.proofs.Common.{◌≡◌, map, take}
use Rattle.worked_problems.specs.Rows.{row_subtask}
use Rattle.worked_problems.proofs.statement.build_subtasks.Given as goal

abbrev pub invariant-loop-row : goal.invariant-loop-row
invariant-loop-row l = l.subs ≡ map row_subtask (take l.row-index l.rows)
