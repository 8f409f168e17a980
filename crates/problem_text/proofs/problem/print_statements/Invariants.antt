use Rattle.std.proofs.Common.{◌≡◌, ◌++◌, drop}
use Rattle.std.specs.Io.{StartsWith}
use Rattle.problem_text.specs.StatementText.{statement_line}
use Rattle.problem_text.specs.ProblemText.{numbered_lines}
use Rattle.problem_text.proofs.problem.print_statements.Given as goal

abbrev pub invariant-loop-number : goal.invariant-loop-number
invariant-loop-number l = record {
  kept : StartsWith l.out.items l.fn.out.items;
  left : l.out.items ++ numbered_lines (statement_line l.problem) l.number (drop l.number l.problem.statements) ≡ l.fn.out.items ++ numbered_lines (statement_line l.problem) 0 l.problem.statements;
}
