use Rattle.std.proofs.Common.{sym, subst, ap, ◌∙◌}
use Rattle.std.specs.Prelude.{Contains, All}
use Rattle.priz_base.specs.Sets.{IsWithin}
use Rattle.priz_base.proofs.Deciding.{not_so, opposite}
use Rattle.statement_set.specs.StatementTree.{StatementTree}
use Rattle.kripke_check.specs.steps.Obeys.{ForcesSubtask}
use Rattle.kripke_check.proofs.Every.{held, was_false, was_true}
use Rattle.kripke_check.proofs.countermodel.obeys.Goals.{then-has, else-has}
use Rattle.kripke_check.proofs.countermodel.obeys.Goals as goal

pub returns-then-not-has_all : goal.returns-then-not-has_all
returns-then-not-has_all c =
    held c.if-has.value c.if-not-has_all.true (λ i g.
    elim c.if-has.branch [
      | then-has w ↦ subst (Contains c.args.world.now) (ap (λ (s : StatementTree). s.output) c.s.view_is) (c.has.ensures.0 w.if-has.true)
      | else-has w ↦ absurd (not_so w.has_all.result w.has_all.ensures (was_false c.if-has.value w.has_all.result w.value-is c.if-not-has_all.true) (subst (λ x. IsWithin x c.args.world.now) (sym (w.as_slice.ensures ∙ ap (λ (s : StatementTree). s.inputs) c.s.view_is)) i))
    ])

pub returns-else-not-has_all : goal.returns-else-not-has_all
returns-else-not-has_all c =
    elim c.if-has.branch [
      | then-has w ↦ absurd (cc)
      | else-has w ↦
          opposite c.forces_subtasks.result c.forces_subtasks.ensures
          (λ a o. not_so c.has.result c.has.ensures w.if-has.false (subst (Contains c.args.world.now) (sym (ap (λ (s : StatementTree). s.output) c.s.view_is)) (o (subst (λ x. IsWithin x c.args.world.now) (w.as_slice.ensures ∙ ap (λ (s : StatementTree). s.inputs) c.s.view_is) (w.has_all.ensures.0 (was_true c.if-has.value w.has_all.result w.value-is c.if-not-has_all.false)))
          (subst (All (ForcesSubtask c.args.worlds.now c.args.world.now)) (c.as_slice-else-not-has_all.ensures ∙ ap (λ (s : StatementTree). s.subs) c.s.view_is) a))))
          (λ n i g. absurd (n (subst (All (ForcesSubtask c.args.worlds.now c.args.world.now)) (sym (c.as_slice-else-not-has_all.ensures ∙ ap (λ (s : StatementTree). s.subs) c.s.view_is)) g)))
    ]
