-- The verdict on a concept, of its parts.
use Rattle.std.proofs.Common.{◌≡◌, ℕ, zero, suc, ◌<◌, List, [], ◌∷◌, length, map, get_or, Ok, Err, sym, ap, ◌∙◌, arith}
use Rattle.body_lang.specs.Verdicts.{and_then}
use Rattle.utopist_syntax.specs.Named.{Named}
use Rattle.utopist_syntax.specs.declared.concept.Concept.{Concept}
use Rattle.utopist_syntax.specs.FileTree.{ConceptTree, concept_tree}
use Rattle.concept_rules.specs.declared.fault.ModelFault.{ModelFault}
use Rattle.concept_rules.specs.declared.fault.UnfoldFault.{UnfoldFault}
use Rattle.concept_rules.specs.declared.fault.UnfoldFault.TheVariants as fault
use Rattle.concept_rules.specs.Checks.{Checks}
use Rattle.concept_rules.specs.Lineage.{inherited_items}
use Rattle.concept_rules.specs.ConceptRules.{concept_name_fault, parents_fault, items_fault, concept_fault}
use Rattle.concept_rules.specs.steps.Extent.{concept_of}

concept_at :
    (concepts : List Concept) (n : ℕ) (c : Concept) → n < length concepts → c ≡ get_or concepts n c
    → concept_of (map concept_tree concepts) n ≡ concept_tree c
concept_at [] n c lt is = absurd (omega arith)
concept_at (x ∷ xs) zero c lt is = ap concept_tree (sym is)
concept_at (x ∷ xs) (suc n) c lt is = concept_at xs n c (omega arith) is

pub concept_is :
    (all : List ConceptTree) (concepts : List Concept) (n : ℕ) (c : Concept)
    → all ≡ map concept_tree concepts → n < length concepts → c ≡ get_or concepts n c
    → concept_of all n ≡ concept_tree c
concept_is all concepts n c same lt is =
    ap (λ (xs : List ConceptTree). concept_of xs n) same ∙ concept_at concepts n c lt is

module _ (before : List ConceptTree) (c : ConceptTree) where
  pub name_fails :
      (n : Named) (g : ModelFault) → n ≡ c.name → Err g ≡ concept_name_fault before n
      → concept_fault before c ≡ Err g
  name_fails n g e h =
      ap (λ v. and_then v (and_then (parents_fault before [] c.parents) (items_fault before (inherited_items before c.parents) c.items))) (ap (concept_name_fault before) (sym e) ∙ sym h)

  pub name_passes :
      (n : Named) → n ≡ c.name → Ok tt ≡ concept_name_fault before n
      → concept_name_fault before c.name ≡ Ok tt
  name_passes n e h = ap (concept_name_fault before) (sym e) ∙ sym h

  module _ (named : concept_name_fault before c.name ≡ Ok tt) where
    after_name :
        concept_fault before c
        ≡ and_then (parents_fault before [] c.parents) (items_fault before (inherited_items before c.parents) c.items)
    after_name =
        ap (λ v. and_then v (and_then (parents_fault before [] c.parents) (items_fault before (inherited_items before c.parents) c.items))) named

    pub parents_fail :
        (X : Type 0) (ps : List Named) (e : UnfoldFault) → ps ≡ c.parents
        → Checks {X = X} (parents_fault before [] ps) (Err e)
        → Checks {X = Unit {0}} (concept_fault before c) (Err e)
    parents_fail X ps (fault.Model g) is h =
        after_name
        ∙ ap (λ v. and_then v (items_fault before (inherited_items before c.parents) c.items)) (ap (parents_fault before []) (sym is) ∙ h)
    parents_fail X ps fault.NoMem is h = tt

    module _ (ps : List Named) (is : ps ≡ c.parents) (ok : parents_fault before [] ps ≡ Ok tt) where
      pub after_parents :
          concept_fault before c ≡ items_fault before (inherited_items before c.parents) c.items
      after_parents =
          after_name
          ∙ ap (λ v. and_then v (items_fault before (inherited_items before c.parents) c.items)) (ap (parents_fault before []) (sym is) ∙ ok)

      pub items_fail :
          (e : UnfoldFault)
          → Checks {X = Unit {0}} (items_fault before (inherited_items before c.parents) c.items) (Err e)
          → Checks {X = Unit {0}} (concept_fault before c) (Err e)
      items_fail (fault.Model g) h = after_parents ∙ h
      items_fail fault.NoMem h = tt
