use Rattle.std.proofs.Common.{◌∙◌, subst, sym}
use Rattle.std.proofs.lemmas.List.Elements.{All-get_or}
use Rattle.statement_set.specs.Problem.{given_vars}
use Rattle.proof_term.specs.Proof.{Steps, proves}
use Rattle.answer_core.proofs.Bodiless.{IsPlainStep, plain_steps, lacks_is, bodiless_behind}
use Rattle.answer_core.proofs.values.first_without_body.Goals as goal

pub body-requires : goal.body-requires
body-requires c =
    let p = c.args.problem.now in
    let items = c.as_slice-step-items.result.now in
    let s = c.step-item.result in
    let proof = subst (λ (b : Steps). proves p (given_vars p) b p.wants) c.loop-step.invariant.all c.requires.proof in
    let all = plain_steps p c.requires.plain (given_vars p) p.wants items proof in
    (subst (IsPlainStep p) (sym c.step-item.is) (All-get_or (IsPlainStep p) items c.loop-step.step-index s c.loop-step-test.true all)).within

pub loop-step-preserved : goal.loop-step-preserved
loop-step-preserved c =
    let p = c.args.problem.now in
    let items = c.as_slice-step-items.result.now in
    let i = c.loop-step.step-index in
    let s = c.step-item.result in
    let proof = subst (λ (b : Steps). proves p (given_vars p) b p.wants) c.loop-step.invariant.all c.requires.proof in
    let all = plain_steps p c.requires.plain (given_vars p) p.wants items proof in
    let its = subst (IsPlainStep p) (sym c.step-item.is) (All-get_or (IsPlainStep p) items i s c.loop-step-test.true all) in
    record {
      all = c.loop-step.invariant.all;
      rest = c.loop-step.invariant.rest
          ∙ bodiless_behind p items i s c.loop-step-test.true c.step-item.is its.alone (lacks_is p s.stmt c.body.result c.is_none.result c.body.ensures c.is_none.ensures ∙ c.if-is_none.false);
    }
