use Rattle.std.proofs.Common.{◌≡◌, ◌++◌, drop}
use Rattle.std.specs.Prelude.{codes}
use Rattle.std.specs.Io.{StartsWith}
use Rattle.std.specs.List.{join_by}
use Rattle.utopist_syntax.proofs.Joined.{left_by}
use Rattle.problem_text.specs.StatementText.{subtask_text}
use Rattle.problem_text.proofs.statement.print_subtasks.Given as goal

abbrev pub invariant-loop-subtask : goal.invariant-loop-subtask
invariant-loop-subtask l = record {
  kept : StartsWith l.out.items l.fn.out.items;
  left : l.out.items ++ left_by (subtask_text l.problem) (codes ", ") l.first (drop l.subtask-index l.subtasks) ≡ l.fn.out.items ++ join_by (subtask_text l.problem) (codes ", ") l.subtasks;
}
