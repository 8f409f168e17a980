use Rattle.std.proofs.Common.{◌≡◌, ◌+◌, ◌<◌, ℕ, List, ◌∷◌, drop, length, get_or, ap, sym, ◌∙◌, subst, fold}
use Rattle.std.proofs.lemmas.List.{drop_all}
use Rattle.std.proofs.lemmas.Result.{err_from_is_err_and}
use Rattle.priz_base.proofs.More.{drop_at}
use Rattle.utopist_syntax.specs.Named.{Named}
use Rattle.utopist_syntax.specs.FileTree.{ConceptTree}
use Rattle.concept_rules.specs.Lineage.{take_parent, lineage}
use Rattle.concept_rules.specs.ConceptRules.{parents_fault}
use Rattle.concept_rules.specs.declared.line.Line.{Line}
use Rattle.concept_rules.specs.steps.Extent.{IsLine}
use Rattle.concept_rules.proofs.Steps.{Ancestry, no_parents, next_parent, parent_fails}
use Rattle.concept_rules.proofs.parents.line_of_parents.Goals as goal

left :
    (all : List ConceptTree) (count : ℕ) (taken : List ℕ) (earlier : List ConceptTree)
    (parents : List Named) (i : ℕ) (x : Named) → i < length parents → x ≡ get_or parents i x
    → Ancestry all count taken earlier parents (drop i parents)
    → Ancestry all count taken earlier parents (x ∷ drop (i + 1) parents)
left all count taken earlier parents i x lt is p =
    subst (λ (xs : List Named). Ancestry all count taken earlier parents xs) (drop_at parents i x lt is) p

pub loop-parent-init : goal.loop-parent-init
loop-parent-init c = λ f at. rw c.new-taken.ensures (no_parents f.all f.concept f.before c.args.parents.now)

pub loop-parent-preserved : goal.loop-parent-preserved
loop-parent-preserved c = λ f at.
    let p = left f.all f.concept _ f.before _ _ _ c.loop-parent-test.true c.parent-item.is (c.loop-parent.invariant f at) in
    next_parent p _ (c.in_ok-take_parent.ensures.rules f p.concepts at p.line) (c.in_ok-take_parent.ensures.line f p.concepts at p.line)

pub returns-in_err-take_parent-clause-rules : goal.returns-in_err-take_parent-clause-rules
returns-in_err-take_parent-clause-rules c = λ f at.
    let p = left f.all f.concept _ f.before _ _ _ c.loop-parent-test.true c.parent-item.is (c.loop-parent.invariant f at) in
    let r = err_from_is_err_and c.from_residual.result c.from_residual.ensures.1 in
    rw (r.1, r.2)
    (parent_fails Line p c.in_err-take_parent.field-0.0 (c.in_err-take_parent.ensures.rules f p.concepts at p.line))

pub returns-clause-rules : goal.returns-clause-rules
returns-clause-rules c = λ f at.
    let p = c.loop-parent.invariant f at in
    p.verdict ∙ ap (parents_fault f.before p.concepts) (drop_all _ _ c.loop-parent-test.false)

pub returns-clause-line : goal.returns-clause-line
returns-clause-line c = λ f at.
    let p = c.loop-parent.invariant f at in
    subst (λ (xs : List ConceptTree). IsLine f.all f.concept c.loop-parent.taken xs) (sym (p.folds ∙ ap (fold (take_parent (lineage f.before)) p.concepts) (drop_all _ _ c.loop-parent-test.false))) p.line
