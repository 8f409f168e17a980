use Rattle.std.proofs.Common.{ℕ, List, ◌↔◌, subst}
use Rattle.std.specs.Prelude.{Contains}
use Rattle.std.proofs.lemmas.List.{take_all}
use Rattle.priz_base.proofs.More.{take_at, same_members}
use Rattle.answer_core.proofs.search.set_of.Goals as goal

pub loop-var-preserved : goal.loop-var-preserved
loop-var-preserved c =
    let vars = c.args.vars.now in
    let more = take_at vars c.loop-var.var-index c.var-item.result c.loop-var-test.true c.var-item.is in
    λ n. rw more (same_members c.loop-var.set c.add.new.self _ c.var-item.result c.add.ensures c.loop-var.invariant n)

pub returns : goal.returns
returns c = λ n. subst (λ (vs : List ℕ). Contains c.loop-var.set n ↔ Contains vs n) (take_all c.loop-var.var-index c.args.vars.now c.loop-var-test.false) (c.loop-var.invariant n)
