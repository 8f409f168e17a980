use Rattle.priz_base.proofs.Deciding.{not_so}
use Rattle.kripke_check.proofs.Every.{failed, was_false, was_true}
use Rattle.kripke_check.proofs.Models.{refutes_decided, givens_lacked, wants_held}
use Rattle.kripke_check.proofs.countermodel.refutes.Goals.{then-has_givens, else-has_givens}
use Rattle.kripke_check.proofs.countermodel.refutes.Goals as goal

pub returns-then-not-has_all : goal.returns-then-not-has_all
returns-then-not-has_all c =
    elim c.if-has_givens.branch [
      | then-has_givens w ↦
          refutes_decided c.args.p.now c.args.worlds.now c.args.root.now c.above_obey.result c.requires
          ((rw c.givens.ensures.list at c.has_givens.ensures).0 w.if-has_givens.true)
          (not_so w.has_all.result (rw w.wants.ensures.list at w.has_all.ensures) (was_false c.if-has_givens.value w.has_all.result w.value-is c.if-not-has_all.true))
          c.above_obey.ensures
      | else-has_givens w ↦ absurd (cc)
    ]

pub returns-else-not-has_all : goal.returns-else-not-has_all
returns-else-not-has_all c =
    failed c.if-has_givens.value c.if-not-has_all.false (λ m.
    elim c.if-has_givens.branch [
      | then-has_givens w ↦ wants_held c.args.p.now c.args.worlds.now c.args.root.now ((rw w.wants.ensures.list at w.has_all.ensures).0 (was_true c.if-has_givens.value w.has_all.result w.value-is c.if-not-has_all.false)) m
      | else-has_givens w ↦ givens_lacked c.args.p.now c.args.worlds.now c.args.root.now (not_so c.has_givens.result (rw c.givens.ensures.list at c.has_givens.ensures) w.if-has_givens.false) m
    ])
