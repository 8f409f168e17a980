use Rattle.std.proofs.Common.{Err, ℕ, List, take, refl, rules, subst, sym, ap, ◌∙◌}
use Rattle.std.proofs.lemmas.List.{drop_all}
use Rattle.priz_base.proofs.Deciding.{not_so}
use Rattle.name_sets.specs.Paths.{texts}
use Rattle.utopist_syntax.specs.declared.compute.GivenPath.{GivenPath}
use Rattle.statement_set.specs.Problem.{Task}
use Rattle.statement_set.specs.declared.given.Given.{Given}
use Rattle.utopist_syntax.specs.Named.{Named}
use Rattle.concept_rules.specs.declared.fault.Rule.TheVariants as rule
use Rattle.concept_rules.specs.declared.fault.ModelFault.{ModelFault}
use Rattle.concept_rules.specs.Paths.{first_of}
use Rattle.concept_rules.specs.PathRules.{broken_at}
use Rattle.concept_unfold.specs.Paths.{given_names, IsOneOf}
use Rattle.concept_unfold.specs.UnfoldingRules.{once_fault}
use Rattle.concept_unfold.specs.Unfolded.{var_number}
use Rattle.concept_unfold.proofs.Once.{nothing_seen, given_known_at, given_before, not_given_before, given_step, givens_more, seen_more, given_twice, given_once}
use Rattle.concept_unfold.proofs.goal.add_givens.Goals as goal

pub var_of-var-requires : goal.var_of-var-requires
var_of-var-requires c =
    subst (λ (vars : List (List ℕ)). IsOneOf vars c.given-item.result.path) (sym (ap (λ (p : Task). p.names) c.loop-given.invariant.same))
    (given_known_at c.args.problem.now.names c.args.givens.now c.loop-given.given-index c.given-item.result c.loop-given-test.true c.given-item.is c.requires.known)

pub loop-given-init : goal.loop-given-init
loop-given-init c = record {
  same = refl;
  givens = search rules;
  seen = λ n. nothing_seen c.new-seen.result c.args.problem.now.givens n c.new-seen.ensures c.requires.none;
  left = refl;
}

pub returns-then-has-clause-once : goal.returns-then-has-clause-once
returns-then-has-clause-once c =
    let gs = c.args.givens.now in
    let i = c.loop-given.given-index in
    let g = c.given-item.result in
    let lt = c.loop-given-test.true in
    let is = c.given-item.is in
    let start = c.args.problem.now.names in
    let vars = ap (λ (p : Task). p.names) c.loop-given.invariant.same in
    let var = c.var_of-var.ensures.number ∙ ap (λ (vs : List (List ℕ)). var_number vs g.path) vars in
    let among = (c.loop-given.invariant.seen c.var_of-var.result).0 (c.has.ensures.0 c.if-has.true) in
    let before = given_before start gs i g c.loop-given.problem.givens c.var_of-var.result lt is c.requires.known c.loop-given.invariant.givens var among in
    c.loop-given.invariant.left ∙ given_twice gs i g lt is before
    ∙ ap (λ (f : ModelFault). Err f) (sym (c.broken_on-fault.ensures ∙ ap (λ (ns : List Named). broken_at (first_of ns) rule.DuplicateInput) c.as_slice.ensures))

pub add_given-requires-clause-fresh : goal.add_given-requires-clause-fresh
add_given-requires-clause-fresh c = λ h. not_so c.has.result c.has.ensures c.if-has.false ((c.loop-given.invariant.seen c.var_of-var.result).1 h)

pub loop-given-preserved : goal.loop-given-preserved
loop-given-preserved c =
    let start = c.args.problem.now in
    let p = c.loop-given.problem in
    let q = c.add_given.new.self in
    let gs = c.args.givens.now in
    let i = c.loop-given.given-index in
    let g = c.given-item.result in
    let lt = c.loop-given-test.true in
    let is = c.given-item.is in
    let v = c.var_of-var.result in
    let made : Given = record { var = v; value = g.value } in
    let e = c.in_ok-add_given.ensures.ok in
    let givens = ap (λ (r : Task). r.givens) e in
    let vars = ap (λ (r : Task). r.names) c.loop-given.invariant.same in
    let var = c.var_of-var.ensures.number ∙ ap (λ (vs : List (List ℕ)). var_number vs g.path) vars in
    let fresh = not_given_before start.names gs i g p.givens v c.loop-given.invariant.givens var
    (λ h. not_so c.has.result c.has.ensures c.if-has.false ((c.loop-given.invariant.seen v).1 h)) in
    record {
      same = given_step start p q made c.loop-given.invariant.same e;
      givens = givens_more start.names gs i g p.givens q.givens made lt is c.loop-given.invariant.givens (ap (λ (w : ℕ). record { var = w; value = g.value }) var) givens;
      seen = λ m. rw givens (seen_more c.loop-given.seen c.add.new.self p.givens made c.add.ensures c.loop-given.invariant.seen m);
      left = c.loop-given.invariant.left ∙ given_once gs i g lt is fresh;
    }

pub returns-clause-once : goal.returns-clause-once
returns-clause-once c =
    let gs = c.args.givens.now in
    let i = c.loop-given.given-index in
    c.loop-given.invariant.left
    ∙ ap (λ (hs : List GivenPath). once_fault (texts (given_names (take i gs))) (given_names hs)) (drop_all i gs c.loop-given-test.false)
