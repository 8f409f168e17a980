use Rattle.std.proofs.Common.{◌≡◌, ◌++◌, drop}
use Rattle.std.specs.Io.{StartsWith}
use Rattle.problem_text.specs.ProblemText.{numbered_lines, var_line}
use Rattle.problem_text.proofs.problem.print_names.Given as goal

abbrev pub invariant-loop-var : goal.invariant-loop-var
invariant-loop-var l = record {
  kept : StartsWith l.out.items l.fn.out.items;
  left : l.out.items ++ numbered_lines var_line l.var (drop l.var l.problem.names) ≡ l.fn.out.items ++ numbered_lines var_line 0 l.problem.names;
}
