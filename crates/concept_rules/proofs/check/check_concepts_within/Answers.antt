use Rattle.std.proofs.Common.{◌≡◌, ◌≤◌, ◌∙◌, ℕ, sym, subst, map, length, List, Ok, arith}
use Rattle.std.proofs.lemmas.List.{length-map}
use Rattle.std.proofs.lemmas.Result.{err_from_is_err_and}
use Rattle.std.proofs.Common.{Err}
use Rattle.body_lang.specs.Verdicts.{Verdict}
use Rattle.utopist_syntax.specs.declared.concept.Concept.{Concept}
use Rattle.utopist_syntax.specs.declared.compute.Compute.{Compute}
use Rattle.utopist_syntax.specs.FileTree.{concept_tree}
use Rattle.concept_rules.specs.declared.fault.ModelFault.{ModelFault}
use Rattle.concept_rules.specs.Checks.{Checks}
use Rattle.concept_rules.specs.ConceptRules.{computes_fault, file_fault}
use Rattle.concept_rules.specs.Lineages.{Lines, AreLineages}
use Rattle.concept_rules.specs.steps.DeclaredNames.{Declared}
use Rattle.concept_rules.proofs.Steps.{WithinConcepts}
use Rattle.concept_rules.proofs.AllConcepts.{before_all, next_concept, concept_fails, file_left}
use Rattle.concept_rules.proofs.AllLineages.{same_fault, all_lineages}
use Rattle.concept_rules.proofs.check.check_concepts_within.Goals as goal

pub loop-which-init : goal.loop-which-init
loop-which-init c =
    before_all _ _ _ c.new-found.ensures.checked c.new-found.ensures.declared c.new-found.ensures.bound

pub loop-which-preserved : goal.loop-which-preserved
loop-which-preserved c =
    let p = c.loop-which.invariant in
    let long = length-map c.as_slice-concepts.result.now concept_tree in
    let test = c.loop-which-test.true in
    next_concept _ _ _ _ _ p _ _ (omega (arith, long, test)) (c.in_ok-check_concept.ensures.rules _ p.before p.found) (c.in_ok-check_concept.ensures.next _ p.before p.found)

pub returns-in_err-check_concept-clause-rules : goal.returns-in_err-check_concept-clause-rules
returns-in_err-check_concept-clause-rules c =
    let p = c.loop-which.invariant in
    let long = length-map c.as_slice-concepts.result.now concept_tree in
    let test = c.loop-which-test.true in
    let r = err_from_is_err_and c.from_residual.result c.from_residual.ensures.1 in
    rw (r.1, r.2)
    (same_fault (Unit {0}) Lines _ c.in_err-check_concept.field-0.0
    (subst (λ (cs : List Concept). Checks {X = Unit {0}} (file_fault c.args.most_computes (record { concepts = map concept_tree cs; computes = c.args.file.now.computes })) (Err c.in_err-check_concept.field-0.0)) c.as_slice-concepts.ensures
    (concept_fails _ _ _ _ _ p c.args.most_computes c.args.file.now.computes c.in_err-check_concept.field-0.0 (omega (arith, long, test)) (c.in_err-check_concept.ensures.rules _ p.before p.found))))

module _ (most : ℕ) (concepts : List Concept) (k : ℕ) (l : Lines) (d : Declared)
    (p : WithinConcepts (map concept_tree concepts) concepts k l d) (all : length concepts ≤ k)
    (file : List Concept) (computes : List Compute) (same : concepts ≡ file) where
  -- what is left of the rules of the file
  whole :
      file_fault most (record { concepts = map concept_tree file; computes = computes })
      ≡ computes_fault most p.before 0 computes
  whole =
      let long = length-map concepts concept_tree in
      subst (λ (cs : List Concept). file_fault most (record { concepts = map concept_tree cs; computes = computes }) ≡ computes_fault most p.before 0 computes) same
      (file_left _ _ _ _ _ p most computes (omega (arith, long, all)))

pub returns-in_err-check_each_compute-clause-rules : goal.returns-in_err-check_each_compute-clause-rules
returns-in_err-check_each_compute-clause-rules c =
    let p = c.loop-which.invariant in
    let left = whole c.args.most_computes c.as_slice-concepts.result.now _ _ _ p c.loop-which-test.false c.args.file.now.concepts c.args.file.now.computes c.as_slice-concepts.ensures in
    let r = err_from_is_err_and c.from_residual-in_err-check_each_compute.result c.from_residual-in_err-check_each_compute.ensures.1 in
    rw (r.1, r.2)
    (same_fault (Unit {0}) Lines _ c.in_err-check_each_compute.field-0.0
    (subst (λ (v : Verdict ModelFault). Checks {X = Unit {0}} v (Err c.in_err-check_each_compute.field-0.0)) (sym left)
    (subst (λ (cs : List Compute). Checks {X = Unit {0}} (computes_fault c.args.most_computes p.before 0 cs) (Err c.in_err-check_each_compute.field-0.0)) c.as_slice.ensures (c.in_err-check_each_compute.ensures _ p.found))))

pub returns-clause-rules : goal.returns-clause-rules
returns-clause-rules c =
    let p = c.loop-which.invariant in
    let left = whole c.args.most_computes c.as_slice-concepts.result.now _ _ _ p c.loop-which-test.false c.args.file.now.concepts c.args.file.now.computes c.as_slice-concepts.ensures in
    left ∙ subst (λ (cs : List Compute). computes_fault c.args.most_computes p.before 0 cs ≡ Ok tt) c.as_slice.ensures (c.in_ok-check_each_compute.ensures _ p.found)

pub returns-clause-lineages : goal.returns-clause-lineages
returns-clause-lineages c =
    let p = c.loop-which.invariant in
    let long = length-map c.as_slice-concepts.result.now concept_tree in
    let test = c.loop-which-test.false in
    subst (λ (cs : List Concept). AreLineages (map concept_tree cs) c.loop-which.found.checked) c.as_slice-concepts.ensures
    (all_lineages (map concept_tree c.as_slice-concepts.result.now) _ _ _ _ p (omega (arith, long, test)))
