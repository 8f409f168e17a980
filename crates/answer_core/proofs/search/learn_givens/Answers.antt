use Rattle.std.proofs.Common.{ℕ, ◌<◌, List, length, get_or, ◌↔◌, ◌∙◌, map, sym, subst}
use Rattle.std.specs.Prelude.{Contains}
use Rattle.std.proofs.lemmas.List.{take_all}
use Rattle.std.proofs.lemmas.List.Elements.{All-get_or}
use Rattle.priz_base.proofs.More.{map_more, same_members}
use Rattle.statement_set.specs.declared.given.Given.{Given}
use Rattle.statement_set.specs.Problem.{Task, given_vars, var_count}
use Rattle.statement_set.proofs.Lists.{all_of_map}
use Rattle.answer_core.proofs.Learnt.{same_within, all_within}
use Rattle.answer_core.proofs.search.learn_givens.Goals as goal

pub learn-requires : goal.learn-requires
learn-requires c =
    let p = c.args.problem.now in
    let g = c.given-item.result in
    let items = c.givens-given-items.result.now in
    let all = all_of_map (λ v. v < var_count p) (λ (x : Given). x.var) p.givens c.givens-given-items.ensures.vars in
    let here = subst (λ (gs : List Given). (i : ℕ) → i < length gs → (get_or gs i g).var < var_count p) (sym c.givens-given-items.ensures.list) (λ i lt. All-get_or (λ (x : Given). x.var < var_count p) p.givens i g lt all) in
    subst (λ (q : Task). g.var < var_count q) (sym c.loop-given.invariant.task)
    (subst (λ (x : Given). x.var < var_count p) (sym c.given-item.is) (here c.loop-given.given-index c.loop-given-test.true))

pub loop-given-preserved : goal.loop-given-preserved
loop-given-preserved c =
    let var = λ (g : Given). g.var in
    let items = c.givens-given-items.result.now in
    let more = map_more var items c.loop-given.given-index c.given-item.result c.loop-given-test.true c.given-item.is in
    record {
      task = c.learn.ensures.task ∙ c.loop-given.invariant.task;
      known = λ n. rw more (same_members c.loop-given.closure.known c.learn.new.self.known _ c.given-item.result.var c.learn.ensures.known c.loop-given.invariant.known n);
    }

pub returns-clause-known : goal.returns-clause-known
returns-clause-known c =
    let var = λ (g : Given). g.var in
    let all = take_all c.loop-given.given-index c.givens-given-items.result.now c.loop-given-test.false ∙ c.givens-given-items.ensures.list in
    λ n. subst (λ (gs : List Given). Contains c.loop-given.closure.known n ↔ Contains (map var gs) n) all (c.loop-given.invariant.known n)

pub returns-clause-vars : goal.returns-clause-vars
returns-clause-vars c =
    let var = λ (g : Given). g.var in
    let p = c.args.problem.now in
    let known = c.loop-given.closure.known in
    let all = take_all c.loop-given.given-index c.givens-given-items.result.now c.loop-given-test.false ∙ c.givens-given-items.ensures.list in
    let same = λ (n : ℕ). subst (λ (gs : List Given). Contains known n ↔ Contains (map var gs) n) all (c.loop-given.invariant.known n) in
    all_within (λ v. v < var_count p) known (given_vars p) (same_within known (given_vars p) same) c.givens-given-items.ensures.vars
