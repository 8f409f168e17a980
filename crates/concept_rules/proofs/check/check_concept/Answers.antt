use Rattle.std.proofs.Common.{◌≡◌, ◌+◌, ◌∙◌, ◌∷◌, [], ap, sym, subst, List}
use Rattle.std.specs.Prelude.{Contains, slice_get}
use Rattle.std.specs.Option.{option_map_or}
use Rattle.std.proofs.lemmas.Result.{err_from_is_err_and}
use Rattle.utopist_syntax.specs.Named.{Named}
use Rattle.utopist_syntax.specs.FileTree.{ItemTree, ConceptTree}
use Rattle.concept_rules.specs.declared.line.Line.{Line}
use Rattle.concept_rules.specs.Lineage.{ancestors}
use Rattle.concept_rules.specs.steps.Variables.{bound_by}
use Rattle.concept_rules.specs.steps.Extent.{extent, concept_of, item_place, IsLine, AreLines}
use Rattle.concept_rules.proofs.WholeConcept.{seen_after, whole_line, more_lines}
use Rattle.concept_rules.proofs.ConceptVerdict.{concept_is, name_fails, name_passes, parents_fail, after_parents, items_fail}
use Rattle.concept_rules.proofs.check.check_concept.Goals as goal

pub returns-in_err-check_name-clause-rules : goal.returns-in_err-check_name-clause-rules
returns-in_err-check_name-clause-rules c = λ all before at.
    let is = concept_is all _ _ _ at.all c.requires.which c.index-concepts-which.is in
    let r = err_from_is_err_and c.from_residual.result c.from_residual.ensures.1 in
    rw (r.1, r.2)
    (name_fails before (concept_of all c.args.which) _ _ (ap (λ (x : ConceptTree). x.name) (sym is)) (c.in_err-check_name.ensures.rules all before at.lines))

pub returns-in_err-here-clause-rules : goal.returns-in_err-here-clause-rules
returns-in_err-here-clause-rules c = λ all before at.
    let is = concept_is all _ _ _ at.all c.requires.which c.index-concepts-which.is in
    let named = name_passes before (concept_of all c.args.which) _ (ap (λ (x : ConceptTree). x.name) (sym is)) (c.in_ok-check_name.ensures.rules all before at.lines) in
    let r = err_from_is_err_and c.from_residual-in_err-here.result c.from_residual-in_err-here.ensures.1 in
    rw (r.1, r.2)
    (parents_fail before (concept_of all c.args.which) named Line c.as_slice.result.now c.in_err-here.field-0.0 (c.as_slice.ensures ∙ ap (λ (x : ConceptTree). x.parents) (sym is)) (c.in_err-here.ensures.rules (extent all c.args.which before 0) at))

pub returns-in_err-check_items-clause-rules : goal.returns-in_err-check_items-clause-rules
returns-in_err-check_items-clause-rules c = λ all before at.
    let is = concept_is all _ _ _ at.all c.requires.which c.index-concepts-which.is in
    let named = name_passes before (concept_of all c.args.which) _ (ap (λ (x : ConceptTree). x.name) (sym is)) (c.in_ok-check_name.ensures.rules all before at.lines) in
    let same : c.as_slice.result.now ≡ (concept_of all c.args.which).parents = c.as_slice.ensures ∙ ap (λ (x : ConceptTree). x.parents) (sym is) in
    let ok = c.in_ok-here.ensures.rules (extent all c.args.which before 0) at in
    let il = subst (λ (ps : List Named). IsLine all c.args.which c.in_ok-here.here (ancestors before ps)) same (c.in_ok-here.ensures.line (extent all c.args.which before 0) at) in
    let r = err_from_is_err_and c.from_residual-in_err-check_items.result c.from_residual-in_err-check_items.ensures.1 in
    rw (r.1, r.2)
    (items_fail before (concept_of all c.args.which) named c.as_slice.result.now same ok c.in_err-check_items.field-0.0 (c.in_err-check_items.ensures.rules all before _ _ at il c.in_ok-push.ensures))

pub returns-clause-rules : goal.returns-clause-rules
returns-clause-rules c = λ all before at.
    let is = concept_is all _ _ _ at.all c.requires.which c.index-concepts-which.is in
    let named = name_passes before (concept_of all c.args.which) _ (ap (λ (x : ConceptTree). x.name) (sym is)) (c.in_ok-check_name.ensures.rules all before at.lines) in
    let same : c.as_slice.result.now ≡ (concept_of all c.args.which).parents = c.as_slice.ensures ∙ ap (λ (x : ConceptTree). x.parents) (sym is) in
    let ok = c.in_ok-here.ensures.rules (extent all c.args.which before 0) at in
    let il = subst (λ (ps : List Named). IsLine all c.args.which c.in_ok-here.here (ancestors before ps)) same (c.in_ok-here.ensures.line (extent all c.args.which before 0) at) in
    after_parents before (concept_of all c.args.which) named c.as_slice.result.now same ok
    ∙ c.in_ok-check_items.ensures.rules all before _ _ at il c.in_ok-push.ensures

pub returns-clause-next : goal.returns-clause-next
returns-clause-next c = λ all before at.
    let is = concept_is all _ _ _ at.all c.requires.which c.index-concepts-which.is in
    let same : c.as_slice.result.now ≡ (concept_of all c.args.which).parents = c.as_slice.ensures ∙ ap (λ (x : ConceptTree). x.parents) (sym is) in
    let il = subst (λ (ps : List Named). IsLine all c.args.which c.in_ok-here.here (ancestors before ps)) same (c.in_ok-here.ensures.line (extent all c.args.which before 0) at) in
    let after = c.in_ok-check_items.ensures.next all before _ _ at il c.in_ok-push.ensures in
    let whole = whole_line all c.args.which before _ _ _ il c.in_ok-push.ensures after.apart in
    let text_is : c.text.result.now ≡ (concept_of all c.args.which).name.text = c.text.ensures ∙ ap (λ (x : ConceptTree). x.name.text) (sym is) in
    let new : ¬ Contains c.args.found.now.checked.names c.text.result.now = λ h. c.in_ok-check_name.ensures.new (subst (Contains c.args.found.now.checked.names) c.text.ensures h) in
    record {
      all = at.all;
      lines =
          subst (AreLines all (c.args.which + 1) (concept_of all c.args.which ∷ before)) (sym c.in_ok-add.ensures) (more_lines all c.args.which before c.args.found.now.checked at.lines c.text.result.now text_is new _ whole);
      index = λ name k. after.now.index name k ∙ ap (λ (xs : List ItemTree). item_place xs name) (sym (seen_after all c.args.which before k));
      bound = λ k j. after.now.bound k j ∙ ap (λ (xs : List ItemTree). option_map_or bound_by (slice_get xs j) []) (sym (seen_after all c.args.which before k));
    }
