use Rattle.std.proofs.Common.{◌≡◌, ◌++◌, drop}
use Rattle.std.specs.Prelude.{codes}
use Rattle.std.specs.Io.{StartsWith}
use Rattle.utopist_syntax.proofs.Joined.{left_by}
use Rattle.problem_text.specs.VariableNames.{variable_name, vars_text}
use Rattle.problem_text.proofs.variables.print_vars.Given as goal

abbrev pub invariant-loop-var : goal.invariant-loop-var
invariant-loop-var l = record {
  kept : StartsWith l.out.items l.fn.out.items;
  left : l.out.items ++ left_by (variable_name l.problem) (codes ", ") l.first (drop l.var-index l.vars) ≡ l.fn.out.items ++ vars_text l.problem l.vars;
}
