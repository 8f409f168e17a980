use Rattle.std.proofs.Transfers.{starts_with_trans, starts_with_of_append}
use Rattle.problem_text.specs.StatementText.{statement_line}
use Rattle.problem_text.proofs.Lines.{line_moved}
use Rattle.problem_text.proofs.problem.print_statements.Goals as goal

pub loop-number-preserved : goal.loop-number-preserved
loop-number-preserved c = record {
  kept = starts_with_trans _ _ _ (starts_with_of_append c.print_statement.new.out.items c.loop-number.out.items _ c.in_ok-print_statement.ensures) c.loop-number.invariant.kept;
  left = line_moved (statement_line c.args.problem.now) c.args.problem.now.statements c.loop-number.number c.statement.result.now c.loop-number.out.items c.print_statement.new.out.items _ c.statement.ensures.which c.loop-number.invariant.left c.in_ok-print_statement.ensures;
}
