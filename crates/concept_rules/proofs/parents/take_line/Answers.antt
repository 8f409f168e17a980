use Rattle.std.proofs.Common.{◌≡◌, ◌+◌, ◌<◌, ◌≤◌, ℕ, List, [], ◌∷◌, map, drop, length, get_or, refl, ap, sym, ◌∙◌, subst, fold}
use Rattle.std.proofs.lemmas.List.{drop_more, drop_all}
use Rattle.std.proofs.lemmas.Result.{err_from_is_err_and}
use Rattle.utopist_syntax.specs.FileTree.{ConceptTree}
use Rattle.concept_rules.specs.Lineage.{take_concept}
use Rattle.concept_rules.specs.ConceptRules.{brings_name, brings_names}
use Rattle.concept_rules.specs.steps.Extent.{concept_of, IsLine}
use Rattle.concept_rules.proofs.Steps.{Taking, passes, passed, fails_whole, take_next, take_fails}
use Rattle.concept_rules.proofs.parents.take_line.Goals as goal

left :
    (all : List ConceptTree) (count : ℕ) (taken : List ℕ) (before : List ConceptTree)
    (line : List ℕ) (i : ℕ) → i < length line
    → Taking all count taken before (map (concept_of all) line) (map (concept_of all) (drop i line))
    → Taking all count taken before (map (concept_of all) line) (concept_of all (get_or line i 0) ∷ map (concept_of all) (drop (i + 1) line))
left all count taken before line i lt p =
    subst (λ (xs : List ℕ). Taking all count taken before (map (concept_of all) line) (map (concept_of all) xs)) (drop_more line i 0 lt) p

none_left :
    (all : List ConceptTree) (line : List ℕ) (i : ℕ) → length line ≤ i
    → map (concept_of all) (drop i line) ≡ []
none_left all line i le = ap (map (concept_of all)) (drop_all i line le)

pub take_concept-requires : goal.take_concept-requires
take_concept-requires c = c.requires c.loop-concept.concept-index 0 c.loop-concept-test.true

pub loop-concept-init : goal.loop-concept-init
loop-concept-init c = λ f cs at line below. record { concepts = cs; line = line; brings = refl; folds = refl }

pub loop-concept-preserved : goal.loop-concept-preserved
loop-concept-preserved c = λ f cs at line below.
    let p = left f.all f.concept _ cs _ _ c.loop-concept-test.true (c.loop-concept.invariant f cs at line below) in
    let lt = below c.loop-concept.concept-index 0 c.loop-concept-test.true in
    take_next p _ (passes _ _ (c.in_ok-take_concept.ensures.rules f p.concepts at p.line lt)) (c.in_ok-take_concept.ensures.line f p.concepts at p.line lt)

pub returns-in_err-take_concept-clause-rules : goal.returns-in_err-take_concept-clause-rules
returns-in_err-take_concept-clause-rules c = λ f cs at line below.
    let p = left f.all f.concept _ cs _ _ c.loop-concept-test.true (c.loop-concept.invariant f cs at line below) in
    let lt = below c.loop-concept.concept-index 0 c.loop-concept-test.true in
    let r = err_from_is_err_and c.from_residual.result c.from_residual.ensures.1 in
    rw (r.1, r.2)
    (fails_whole (brings_name p.concepts (concept_of f.all (get_or c.args.line.now c.loop-concept.concept-index 0))) (brings_names cs (map (concept_of f.all) c.args.line.now)) _ c.in_err-take_concept.field-0.0 (take_fails p) (c.in_err-take_concept.ensures.rules f p.concepts at p.line lt))

pub returns-clause-rules : goal.returns-clause-rules
returns-clause-rules c = λ f cs at line below.
    let p = c.loop-concept.invariant f cs at line below in
    passed _ _ (p.brings ∙ ap (brings_names p.concepts) (none_left f.all _ _ c.loop-concept-test.false))

pub returns-clause-line : goal.returns-clause-line
returns-clause-line c = λ f cs at line below.
    let p = c.loop-concept.invariant f cs at line below in
    subst (λ (xs : List ConceptTree). IsLine f.all f.concept c.loop-concept.taken xs) (sym (p.folds ∙ ap (fold take_concept p.concepts) (none_left f.all _ _ c.loop-concept-test.false))) p.line
