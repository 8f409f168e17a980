use Rattle.priz_base.proofs.Deciding.{not_so}
use Rattle.kripke_check.proofs.Every.{held, was_false, was_true}
use Rattle.kripke_check.proofs.countermodel.keeps.Goals.{then-not-is_within, else-not-is_within}
use Rattle.kripke_check.proofs.countermodel.keeps.Goals as goal

pub returns-then-not-has_all : goal.returns-then-not-has_all
returns-then-not-has_all c =
    held c.if-not-is_within.value c.if-not-has_all.true (λ i g.
    elim c.if-not-is_within.branch [
      | then-not-is_within w ↦ absurd (not_so c.is_within.result c.is_within.ensures w.if-not-is_within.true i)
      | else-not-is_within w ↦ absurd (not_so w.has_all.result (rw w.as_slice.ensures at w.has_all.ensures) (was_false c.if-not-is_within.value w.has_all.result w.value-is c.if-not-has_all.true) g)
    ])

pub returns-else-not-has_all : goal.returns-else-not-has_all
returns-else-not-has_all c =
    elim c.if-not-is_within.branch [
      | then-not-is_within w ↦ absurd (cc)
      | else-not-is_within w ↦ (
        λ e i g. (rw c.as_slice-else-not-has_all.ensures at c.has_all-else-not-has_all.ensures).0 e,
        λ h. (rw c.as_slice-else-not-has_all.ensures at c.has_all-else-not-has_all.ensures).1 (h
            (c.is_within.ensures.0 w.if-not-is_within.false)
            ((rw w.as_slice.ensures at w.has_all.ensures).0 (was_true c.if-not-is_within.value w.has_all.result w.value-is c.if-not-has_all.false))),
      )
    ]
