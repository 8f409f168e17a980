use Rattle.std.proofs.Common.{Some, arith, subst, sym, ap, ◌∙◌}
use Rattle.std.specs.Prelude.{All}
use Rattle.priz_base.proofs.Deciding.{never, not_so}
use Rattle.statement_set.specs.StatementTree.{StatementTree}
use Rattle.statement_set.specs.Problem.{var_count, IsSubtaskOver}
use Rattle.term_check.specs.Separate.{IsSeparateFrom, AreSeparateFrom}
use Rattle.term_check.proofs.Falls.{step_falls, one_falls}
use Rattle.term_check.proofs.Separations.{IsApart, separate_by_step, separate_length, separate_by_one, new_first, known_separate, body_separate}
use Rattle.term_check.proofs.Walk.{step_missing, step_refused, step_passed, one_refused, one_passed}
use Rattle.term_check.proofs.separation.+separation.Goals as goal

pub is_separate-returns-then-s-statements : goal.is_separate-returns-then-s-statements
is_separate-returns-then-s-statements t c =
    step_missing c.args.p.now (IsSeparateFrom c.args.p.now) (IsApart c.args.p.now) (separate_by_step c.args.p.now) _ c.loop-s.scope c.as_slice-s-items.result.now c.loop-s.s-index c.s-item.result c.loop-s-test.true c.s-item.is c.loop-s.invariant (rw c.statements.ensures at c.if-s-statements.true)

pub is_separate-returns-then-not-are_separate : goal.is_separate-returns-then-not-are_separate
is_separate-returns-then-not-are_separate t c =
    step_refused c.args.p.now (IsSeparateFrom c.args.p.now) (IsApart c.args.p.now) (separate_by_step c.args.p.now) _ c.loop-s.scope c.as_slice-s-items.result.now c.loop-s.s-index c.s-item.result c.loop-s-test.true c.s-item.is c.loop-s.invariant
    _ (c.statement-statement.ensures.which ∙ ap Some (sym c.statement.view_is))
    (not_so c.are_separate.result (rw (c.as_slice.ensures, c.as_slice-in-loop-s.ensures) at c.are_separate.ensures) c.if-not-are_separate.true)

pub is_separate-loop-s-preserved : goal.is_separate-loop-s-preserved
is_separate-loop-s-preserved t c =
    step_passed c.args.p.now (IsSeparateFrom c.args.p.now) (IsApart c.args.p.now) (separate_by_step c.args.p.now) _ c.loop-s.scope c.as_slice-s-items.result.now c.loop-s.s-index c.s-item.result c.loop-s-test.true c.s-item.is c.loop-s.invariant
    _ c.add.new.self (c.statement-statement.ensures.which ∙ ap Some (sym c.statement.view_is))
    ((rw (c.as_slice.ensures, c.as_slice-in-loop-s.ensures) at c.are_separate.ensures).0 c.if-not-are_separate.false)
    c.add.ensures

pub is_separate-are_separate-requires : goal.is_separate-are_separate-requires
is_separate-are_separate-requires t c = (
  let l = step_falls c.args.b.now c.b.inside.steps c.as_slice-s-items.result.now c.loop-s.s-index c.s-item.result c.as_slice-in-loop-s.result.now c.as_slice-s-items.ensures c.b.view_is c.loop-s-test.true c.s-item.is c.as_slice-in-loop-s.ensures in omega (arith, l, c.decreases),
  subst (All (IsSubtaskOver (var_count c.args.p.now))) (sym (c.as_slice.ensures ∙ ap (λ (s : StatementTree). s.subs) c.statement.view_is)) c.statement-statement.ensures.over.subs,
)

pub are_separate-returns-then-tasks-subs : goal.are_separate-returns-then-tasks-subs
are_separate-returns-then-tasks-subs t c = never (λ a. c.if-tasks-subs.true (separate_length _ _ _ _ a))

pub are_separate-is_new-requires : goal.are_separate-is_new-requires
are_separate-is_new-requires t c = (
  let l = one_falls c.args.subs.now c.loop-i.i c.index-subs-i.result (omega arith) c.index-subs-i.is in omega (arith, l, c.decreases),
  subst (IsSubtaskOver (var_count c.args.p.now)) (sym c.index-tasks-i.is) (c.requires c.loop-i.i c.index-tasks-i.result c.loop-i-test.true),
)

pub are_separate-returns-then-not-is_new : goal.are_separate-returns-then-not-is_new
are_separate-returns-then-not-is_new t c =
    one_refused (AreSeparateFrom c.args.p.now c.args.scope.now) (separate_by_one c.args.p.now c.args.scope.now) c.args.tasks.now c.args.subs.now c.loop-i.i c.index-tasks-i.result c.index-subs-i.result c.loop-i-test.true c.index-tasks-i.is (omega arith) c.index-subs-i.is c.loop-i.invariant c.is_new.result c.is_new.ensures c.if-not-is_new.true

pub are_separate-loop-i-preserved : goal.are_separate-loop-i-preserved
are_separate-loop-i-preserved t c =
    one_passed (AreSeparateFrom c.args.p.now c.args.scope.now) (separate_by_one c.args.p.now c.args.scope.now) c.args.tasks.now c.args.subs.now c.loop-i.i c.index-tasks-i.result c.index-subs-i.result c.loop-i-test.true c.index-tasks-i.is (omega arith) c.index-subs-i.is c.loop-i.invariant (c.is_new.ensures.0 c.if-not-is_new.false)

pub is_new-returns-then-not-are_new : goal.is_new-returns-then-not-are_new
is_new-returns-then-not-are_new t c =
    never (λ h. not_so c.are_new.result (rw c.as_slice.ensures at c.are_new.ensures) c.if-not-are_new.true (new_first c.args.p.now c.args.scope.now c.args.task.now c.args.sub.now h))

pub is_new-returns-in-Known : goal.is_new-returns-in-Known
is_new-returns-in-Known t c = known_separate c.args.p.now c.args.scope.now c.args.task.now c.args.sub.now c.in-Known.is ((rw c.as_slice.ensures at c.are_new.ensures).0 c.if-not-are_new.false)

pub is_new-returns-in-Body : goal.is_new-returns-in-Body
is_new-returns-in-Body t c =
    body_separate c.args.p.now c.args.scope.now c.with_all-inner.result c.args.task.now c.in-Body.b c.args.sub.now c.is_separate.result c.in-Body.is (rw c.as_slice-in-Body.ensures at c.with_all-inner.ensures) ((rw c.as_slice.ensures at c.are_new.ensures).0 c.if-not-are_new.false) c.is_separate.ensures
