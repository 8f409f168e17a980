use Rattle.std.proofs.Common.{subst}
use Rattle.std.specs.Prelude.{All}
use Rattle.std.proofs.lemmas.List.{take_all}
use Rattle.priz_base.proofs.Deciding.{not_so, never, always}
use Rattle.statement_set.specs.Problem.{IsSubtaskOver}
use Rattle.worked_problems.specs.declared.rows.SubtaskRow.{SubtaskRow}
use Rattle.worked_problems.specs.Rows.{row_subtask}
use Rattle.worked_problems.proofs.Added.{refused_at, held_more, held_all}
use Rattle.worked_problems.proofs.statement.are_subtasks_over.Goals as goal

pub returns-then-not-is_subtask_over : goal.returns-then-not-is_subtask_over
returns-then-not-is_subtask_over c =
    never (refused_at (IsSubtaskOver c.args.vars) row_subtask c.args.rows.now c.loop-row.row-index _ c.loop-row-test.true (not_so c.is_subtask_over.result c.is_subtask_over.ensures c.if-not-is_subtask_over.true))

pub loop-row-preserved : goal.loop-row-preserved
loop-row-preserved c =
    held_more (IsSubtaskOver c.args.vars) row_subtask c.args.rows.now c.loop-row.row-index _ c.loop-row-test.true (c.is_subtask_over.ensures.0 c.if-not-is_subtask_over.false) c.loop-row.invariant

pub returns : goal.returns
returns c =
    always (held_all (IsSubtaskOver c.args.vars) row_subtask c.args.rows.now (subst (All (λ (r : SubtaskRow). IsSubtaskOver c.args.vars (row_subtask r))) (take_all c.loop-row.row-index c.args.rows.now c.loop-row-test.false) c.loop-row.invariant))
