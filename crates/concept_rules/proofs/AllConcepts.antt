-- The concepts of a file, from the first to the last.
use Rattle.std.proofs.Common.{◌≡◌, ℕ, ◌+◌, ◌<◌, ◌≤◌, Bool, true, false, List, [], ◌∷◌, length, map, take, drop, reverse, nat_lt, nat_eq, Ok, Err, None, refl, sym, ap, ◌∙◌, subst, arith}
use Rattle.std.proofs.lemmas.List.{take_more, drop_more, drop_all, take_all, reverse-append}
use Rattle.std.specs.Prelude.{slice_get, unwrap_or}
use Rattle.std.specs.Map.{lookup}
use Rattle.concept_rules.specs.declared.declarations.Declaration.{Declaration}
use Rattle.std.specs.Option.{option_map_or}
use Rattle.body_lang.specs.Verdicts.{and_then}
use Rattle.priz_base.proofs.Members.{contains_none}
use Rattle.utopist_syntax.specs.declared.concept.Concept.{Concept}
use Rattle.utopist_syntax.specs.declared.compute.Compute.{Compute}
use Rattle.utopist_syntax.specs.FileTree.{ItemTree, ConceptTree, concept_tree}
use Rattle.concept_rules.specs.declared.fault.UnfoldFault.{UnfoldFault}
use Rattle.concept_rules.specs.declared.fault.UnfoldFault.TheVariants as fault
use Rattle.concept_rules.specs.Checks.{Checks}
use Rattle.concept_rules.specs.ConceptRules.{concept_fault, concepts_fault, computes_fault, file_fault}
use Rattle.concept_rules.specs.steps.DeclaredNames.{Declared, is_same_item, item_in}
use Rattle.concept_rules.specs.Lineages.{Lines}
use Rattle.concept_rules.specs.steps.Variables.{bound_by}
use Rattle.concept_rules.specs.steps.Extent.{extent, no_concept, concept_of, checked_items, item_place, AreLines, Reached}
use Rattle.concept_rules.proofs.Lines.{not_below}
use Rattle.concept_rules.proofs.Steps.{WithinConcepts}

nothing_seen :
    (all : List ConceptTree) (n : ℕ) (b : Bool) → nat_eq n 0 ≡ b
    → checked_items (extent all 0 [] 0) n ≡ []
nothing_seen all n true e = rw (not_below n 0 (nat_lt n 0) refl (λ h. omega (arith, h)), e) refl
nothing_seen all n false e = rw (not_below n 0 (nat_lt n 0) refl (λ h. omega (arith, h)), e) refl

no_lines : (all : List ConceptTree) → AreLines all 0 [] (record { names = []; lines = [] })
no_lines all = record {
  long = refl;
  even = refl;
  order = refl;
  known = λ name. (λ h. absurd (cc), λ h. absurd (contains_none name h));
  names = λ n lt. absurd (omega (arith, lt));
  once = λ n m lt. absurd (omega (arith, lt));
  lines = λ i name line h. absurd (cc);
}

-- before the first one
pub before_all :
    (concepts : List Concept) (l : Lines) (d : Declared) → l ≡ record { names = []; lines = [] }
    → ((name : List ℕ) (n : ℕ) → item_in d name n ≡ None) → d.bound ≡ []
    → WithinConcepts (map concept_tree concepts) concepts 0 l d
before_all concepts l d e none free = record {
  before = [];
  found = record {
    all = refl;
    lines =
        subst (AreLines (map concept_tree concepts) 0 []) (sym e) (no_lines (map concept_tree concepts));
    index = λ name n. none name n ∙ ap (λ (xs : List ItemTree). item_place xs name) (sym (nothing_seen (map concept_tree concepts) n (nat_eq n 0) refl));
    bound = λ n j. ap (λ (es : List (Declaration × List (List (List ℕ)))). unwrap_or (lookup (is_same_item (record { concept = n; item = j })) es) []) free ∙ ap (λ (xs : List ItemTree). option_map_or bound_by (slice_get xs j) []) (sym (nothing_seen (map concept_tree concepts) n (nat_eq n 0) refl));
  };
  latest = refl;
  verdict = refl;
}

module _ (all : List ConceptTree) (concepts : List Concept) (k : ℕ) (l : Lines) (d : Declared)
    (p : WithinConcepts all concepts k l d) where
  next_verdict :
      k < length all → concepts_fault [] all
      ≡ and_then (concept_fault p.before (concept_of all k)) (concepts_fault (concept_of all k ∷ p.before) (drop (k + 1) all))
  next_verdict lt = p.verdict ∙ ap (concepts_fault p.before) (drop_more all k no_concept lt)

  -- behind one more
  pub next_concept :
      (m : Lines) (e : Declared) → k < length all
      → concept_fault p.before (concept_of all k) ≡ Ok tt
      → Reached (extent all (k + 1) (concept_of all k ∷ p.before) 0) concepts m e
      → WithinConcepts all concepts (k + 1) m e
  next_concept m e lt ok at = record {
    before = concept_of all k ∷ p.before;
    found = at;
    latest =
        ap (λ (xs : List ConceptTree). concept_of all k ∷ xs) p.latest
        ∙ sym (ap reverse (take_more all k no_concept lt) ∙ reverse-append (take k all) (concept_of all k ∷ []));
    verdict =
        next_verdict lt
        ∙ ap (λ v. and_then v (concepts_fault (concept_of all k ∷ p.before) (drop (k + 1) all))) ok;
  }

  pub concept_fails :
      (most : ℕ) (computes : List Compute) (e : UnfoldFault) → k < length all
      → Checks {X = Unit {0}} (concept_fault p.before (concept_of all k)) (Err e)
      → Checks {X = Unit {0}} (file_fault most (record { concepts = all; computes = computes })) (Err e)
  concept_fails most computes (fault.Model g) lt h =
      ap (λ v. and_then v (computes_fault most (reverse all) 0 computes)) (next_verdict lt ∙ ap (λ v. and_then v (concepts_fault (concept_of all k ∷ p.before) (drop (k + 1) all))) h)
  concept_fails most computes fault.NoMem lt h = tt

  pub file_left :
      (most : ℕ) (computes : List Compute) → length all ≤ k
      → file_fault most (record { concepts = all; computes = computes })
      ≡ computes_fault most p.before 0 computes
  file_left most computes le =
      let done : concepts_fault [] all ≡ Ok tt = p.verdict ∙ ap (concepts_fault p.before) (drop_all k all le) in
      let latest : reverse all ≡ p.before = sym (p.latest ∙ ap reverse (take_all k all le)) in
      ap (λ v. and_then v (computes_fault most (reverse all) 0 computes)) done
      ∙ ap (λ (xs : List ConceptTree). computes_fault most xs 0 computes) latest
