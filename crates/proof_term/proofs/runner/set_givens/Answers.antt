use Rattle.std.proofs.Common.{length, ap, ◌∙◌, arith}
use Rattle.std.proofs.lemmas.List.{length-set}
use Rattle.statement_set.specs.declared.given.Given.{Given}
use Rattle.statement_set.specs.Problem.{given_vars}
use Rattle.proof_term.proofs.RunningSteps.{given_more, given_read, given_below, within_givens}
use Rattle.proof_term.proofs.runner.set_givens.Goals as goal

pub bounds-env-given-inside : goal.bounds-env-given-inside
bounds-env-given-inside c =
    let below = given_below c.args.problem.now c.givens-given-items.result.now c.loop-i.i c.given-item.result c.given.inside.0.0.0 c.givens-given-items.ensures.list c.loop-i-test.true c.given-item.is (ap (λ (x : Given). x.var) c.given.view_is) c.givens-given-items.ensures.vars in
    omega (arith, below, c.loop-i.invariant.room, c.requires.env)

pub loop-i-preserved : goal.loop-i-preserved
loop-i-preserved c =
    let p = c.args.problem.now in
    let items = c.givens-given-items.result.now in
    let i = c.loop-i.i in
    let g = c.given-item.result in
    let v = c.given.inside.0.0.0 in
    let its = ap (λ (x : Given). x.var) c.given.view_is in
    let within = within_givens p items i g v c.givens-given-items.ensures.list c.loop-i-test.true c.given-item.is its in
    let read = given_read p items i g v c.givens-given-items.ensures.list c.loop-i-test.true c.given-item.is its in
    record {
      rest = c.loop-i.invariant.rest ∙ given_more c.loop-i.env (given_vars p) c.args.values.now i v c.index-values-i.result within (omega (arith, c.loop-i-test.true, ap length c.givens-given-items.ensures.list, c.requires.values)) read c.index-values-i.is;
      room = length-set c.loop-i.env v c.index-values-i.result ∙ c.loop-i.invariant.room;
    }
