use Rattle.std.proofs.Transfers.{starts_with_trans, starts_with_of_append}
use Rattle.problem_text.specs.ProblemText.{var_line}
use Rattle.problem_text.proofs.Lines.{line_moved}
use Rattle.problem_text.proofs.problem.print_names.Goals as goal

pub loop-var-preserved : goal.loop-var-preserved
loop-var-preserved c = record {
  kept = starts_with_trans _ _ _ (starts_with_of_append c.print_var.new.out.items c.loop-var.out.items _ c.in_ok-print_var.ensures) c.loop-var.invariant.kept;
  left = line_moved var_line c.args.problem.now.names c.loop-var.var c.name.result.now c.loop-var.out.items c.print_var.new.out.items _ c.name.ensures c.loop-var.invariant.left c.in_ok-print_var.ensures;
}
