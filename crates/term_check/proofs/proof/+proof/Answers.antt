use Rattle.std.proofs.Common.{Some, arith, subst, sym, ap, ◌∙◌}
use Rattle.std.specs.Prelude.{All}
use Rattle.priz_base.specs.Sets.{IsWithin}
use Rattle.priz_base.proofs.Deciding.{never, not_so}
use Rattle.statement_set.specs.StatementTree.{StatementTree}
use Rattle.statement_set.specs.Problem.{var_count, IsSubtaskOver}
use Rattle.proof_term.specs.Proof.{proves, answers}
use Rattle.term_check.proofs.Falls.{step_falls, one_falls}
use Rattle.term_check.proofs.Proofs.{Fits, proof_by_step, answers_length, answers_by_one, known_answers, body_answers}
use Rattle.term_check.proofs.Walk.{step_missing, step_refused, step_passed, one_refused, one_passed}
use Rattle.term_check.proofs.proof.+proof.Goals as goal

pub gives-returns-then-s-statements : goal.gives-returns-then-s-statements
gives-returns-then-s-statements t c =
    step_missing c.args.p.now (λ S b. proves c.args.p.now S b c.args.wants.now) (Fits c.args.p.now) (proof_by_step c.args.p.now c.args.wants.now) _ c.loop-s.scope c.as_slice-s-items.result.now c.loop-s.s-index c.s-item.result c.loop-s-test.true c.s-item.is c.loop-s.invariant (rw c.statements.ensures at c.if-s-statements.true)

pub gives-returns-then-not-has_all : goal.gives-returns-then-not-has_all
gives-returns-then-not-has_all t c =
    step_refused c.args.p.now (λ S b. proves c.args.p.now S b c.args.wants.now) (Fits c.args.p.now) (proof_by_step c.args.p.now c.args.wants.now) _ c.loop-s.scope c.as_slice-s-items.result.now c.loop-s.s-index c.s-item.result c.loop-s-test.true c.s-item.is c.loop-s.invariant
    c.statement-statement.result.now c.statement-statement.ensures.which
    (λ q. not_so c.has_all.result c.has_all.ensures c.if-not-has_all.true (subst (λ x. IsWithin x c.loop-s.scope) (sym (c.as_slice.ensures ∙ ap (λ (s : StatementTree). s.inputs) c.statement.view_is)) q.0))

pub gives-loop-s-preserved : goal.gives-loop-s-preserved
gives-loop-s-preserved t c =
    step_passed c.args.p.now (λ S b. proves c.args.p.now S b c.args.wants.now) (Fits c.args.p.now) (proof_by_step c.args.p.now c.args.wants.now) _ c.loop-s.scope c.as_slice-s-items.result.now c.loop-s.s-index c.s-item.result c.loop-s-test.true c.s-item.is c.loop-s.invariant
    _ c.add.new.self (c.statement-statement.ensures.which ∙ ap Some (sym c.statement.view_is))
    ((rw c.as_slice.ensures at c.has_all.ensures).0 c.if-not-has_all.false, (rw (c.as_slice-in-loop-s.ensures, c.as_slice-in-loop-s-2.ensures) at c.answered.ensures).0 c.if-not-answered.false)
    c.add.ensures

pub gives-answered-requires : goal.gives-answered-requires
gives-answered-requires t c = (
  let l = step_falls c.args.b.now c.b.inside.steps c.as_slice-s-items.result.now c.loop-s.s-index c.s-item.result c.as_slice-in-loop-s-2.result.now c.as_slice-s-items.ensures c.b.view_is c.loop-s-test.true c.s-item.is c.as_slice-in-loop-s-2.ensures in omega (arith, l, c.decreases),
  subst (All (IsSubtaskOver (var_count c.args.p.now))) (sym (c.as_slice-in-loop-s.ensures ∙ ap (λ (s : StatementTree). s.subs) c.statement.view_is)) c.statement-statement.ensures.over.subs,
)

pub answered-returns-then-tasks-subs : goal.answered-returns-then-tasks-subs
answered-returns-then-tasks-subs t c = never (λ a. c.if-tasks-subs.true (answers_length _ _ _ _ a))

pub answered-is_answered-requires : goal.answered-is_answered-requires
answered-is_answered-requires t c = (
  let l = one_falls c.args.subs.now c.loop-i.i c.index-subs-i.result (omega arith) c.index-subs-i.is in omega (arith, l, c.decreases),
  subst (IsSubtaskOver (var_count c.args.p.now)) (sym c.index-tasks-i.is) (c.requires c.loop-i.i c.index-tasks-i.result c.loop-i-test.true),
)

pub answered-returns-then-not-is_answered : goal.answered-returns-then-not-is_answered
answered-returns-then-not-is_answered t c =
    one_refused (answers c.args.p.now c.args.scope.now) (answers_by_one c.args.p.now c.args.scope.now) c.args.tasks.now c.args.subs.now c.loop-i.i c.index-tasks-i.result c.index-subs-i.result c.loop-i-test.true c.index-tasks-i.is (omega arith) c.index-subs-i.is c.loop-i.invariant c.is_answered.result c.is_answered.ensures c.if-not-is_answered.true

pub answered-loop-i-preserved : goal.answered-loop-i-preserved
answered-loop-i-preserved t c =
    one_passed (answers c.args.p.now c.args.scope.now) (answers_by_one c.args.p.now c.args.scope.now) c.args.tasks.now c.args.subs.now c.loop-i.i c.index-tasks-i.result c.index-subs-i.result c.loop-i-test.true c.index-tasks-i.is (omega arith) c.index-subs-i.is c.loop-i.invariant (c.is_answered.ensures.0 c.if-not-is_answered.false)

pub is_answered-returns-in-Known : goal.is_answered-returns-in-Known
is_answered-returns-in-Known t c = known_answers c.args.p.now c.args.scope.now c.args.task.now c.args.sub.now c.has_all.result c.in-Known.is (rw c.as_slice.ensures at c.has_all.ensures)

pub is_answered-returns-in-Body : goal.is_answered-returns-in-Body
is_answered-returns-in-Body t c =
    body_answers c.args.p.now c.args.scope.now c.with_all-inner.result c.args.task.now c.in-Body.b c.args.sub.now c.gives.result c.in-Body.is (rw c.as_slice-in-Body.ensures at c.with_all-inner.ensures) (rw c.as_slice-in-Body-2.ensures at c.gives.ensures)
