use Rattle.std.proofs.Common.{drop, ◌+◌, subst}
use Rattle.std.specs.Prelude.{Any}
use Rattle.priz_base.specs.Sets.{IsWithin}
use Rattle.priz_base.proofs.Deciding.{never, not_so}
use Rattle.statement_set.specs.Forcing.{World}
use Rattle.kripke_check.specs.steps.Obeys.{ObeysAll, AreSame}
use Rattle.kripke_check.proofs.Every.{rest_decides, first_of_rest, tail_whole}
use Rattle.kripke_check.proofs.Models.{same_obeys}
use Rattle.kripke_check.proofs.countermodel.above_obey.Goals.{else-is_within-via-then-is_within+then-not-has_same+else-not-obeys_all, else-is_within-via-then-is_within+else-not-has_same, else-is_within-via-else-is_within}
use Rattle.kripke_check.proofs.countermodel.above_obey.Goals as goal

pub returns-then-not-obeys_all : goal.returns-then-not-obeys_all
returns-then-not-obeys_all c =
    never (λ h. not_so c.obeys_all.result c.obeys_all.ensures c.if-not-obeys_all.true
    (first_of_rest (λ (u : World). IsWithin c.args.root.now u → ObeysAll c.args.worlds.now c.args.p.now u) c.args.worlds.now c.loop-i.i c.index-worlds-i.result c.loop-i-test.true c.index-worlds-i.is c.loop-i.invariant h (c.is_within.ensures.0 c.if-is_within.true)))

pub loop-i-preserved : goal.loop-i-preserved
loop-i-preserved c =
    rest_decides (λ (u : World). IsWithin c.args.root.now u → ObeysAll c.args.worlds.now c.args.p.now u) c.args.worlds.now c.loop-i.i c.index-worlds-i.result c.loop-i-test.true c.index-worlds-i.is (λ h i.
    elim c.else-is_within.branch [
      | else-is_within-via-then-is_within+then-not-has_same+else-not-obeys_all w ↦ w.obeys_all.ensures.0 w.if-not-obeys_all.false
      | else-is_within-via-then-is_within+else-not-has_same w ↦ same_obeys c.args.worlds.now c.args.p.now c.args.root.now c.index-worlds-i.result (drop (c.loop-i.i + 1) c.args.worlds.now) (subst (Any (AreSame c.index-worlds-i.result)) (tail_whole c.args.worlds.now (c.loop-i.i + 1)) (w.has_same.ensures.0 w.if-not-has_same.false)) h i
      | else-is_within-via-else-is_within w ↦ absurd (not_so c.is_within.result c.is_within.ensures w.if-is_within.false i)
    ]) c.loop-i.invariant
