use Rattle.std.proofs.Common.{◌≡◌, ◌++◌, drop}
use Rattle.std.specs.Io.{StartsWith}
use Rattle.answer_core.specs.Report.{value_lines}
use Rattle.answer_core.proofs.report.write_all_values.Given as goal

-- with the lines that are left it is the whole
abbrev pub invariant-loop-i : goal.invariant-loop-i
invariant-loop-i l = record {
  all : l.want-items ≡ l.problem.wants;
  kept : StartsWith l.out.items l.fn.out.items;
  rest : l.out.items ++ value_lines l.problem (drop l.i l.want-items) (drop l.i l.values) ≡ l.fn.out.items ++ value_lines l.problem l.problem.wants l.values;
}
