use Rattle.std.proofs.Common.{length, ap, ◌∙◌}
use Rattle.priz_base.proofs.Deciding.{not_so}
use Rattle.statement_set.specs.Problem.{Task, IsStatementOver}
use Rattle.worked_problems.specs.Rows.{row_statement}
use Rattle.worked_problems.proofs.Added.{refused_at}
use Rattle.worked_problems.proofs.Totals.{room_left}
use Rattle.worked_problems.proofs.problem.add_statements.Goals as goal

pub returns-then-not-is_statement_over-clause-fault : goal.returns-then-not-is_statement_over-clause-fault
returns-then-not-is_statement_over-clause-fault c =
    let count = c.vars.ensures.count ∙ ap (λ (p : Task). length p.names) c.loop-statement.invariant ∙ ap length c.requires.names in
    let refused = refused_at (IsStatementOver c.vars.result) row_statement c.args.row.now.statements.now c.loop-statement.statement-index _ c.loop-statement-test.true (not_so c.is_statement_over.result c.is_statement_over.ensures c.if-not-is_statement_over.true) in
    rw (← count) refused

pub add_statement-requires-clause-subtasks : goal.add_statement-requires-clause-subtasks
add_statement-requires-clause-subtasks c =
    room_left c.args.row.now.statements.now c.loop-statement.statement-index _ c.loop-statement.problem.statements c.in_ok-build_statement.field-0 c.loop-statement-test.true (c.has_few_subtasks.ensures.0 c.if-not-has_few_subtasks.false) (ap (λ (p : Task). p.statements) c.loop-statement.invariant) c.in_ok-build_statement.ensures
