-- The items of concepts that pass their rules lead from the effective items of each concept.
use Rattle.std.proofs.Common.{◌≡◌, ◌⊎◌, inl, inr, ℕ, Bool, true, false, List, [], ◌∷◌, ◌++◌, Ok, refl, sym, ap, ◌∙◌, subst, ⊎_elim, append_assoc, append-nil}
use Rattle.std.specs.Prelude.{if◌then◌else◌, not, fold, reverse, Contains}
use Rattle.std.specs.Str.{bytes_eq}
use Rattle.std.proofs.lemmas.List.{reverse-append}
use Rattle.std.proofs.lemmas.List.Elements.{Contains-append_left, Contains-append_right, Contains-append_cases, Contains-push_cases}
use Rattle.priz_base.proofs.Members.{contains_here, contains_there, contains_cases, contains_none}
use Rattle.body_lang.proofs.Verdicts.{first_passes, second_passes, test_passes}
use Rattle.utopist_syntax.specs.Named.{Named}
use Rattle.utopist_syntax.specs.FileTree.{ItemTree, ConceptTree}
use Rattle.concept_rules.specs.Declarations.{is_among}
use Rattle.concept_rules.specs.Lineage.{concept_names, take_concept, take_parent, lineage, all_items, effective_items, ancestors}
use Rattle.concept_rules.specs.ConceptRules.{items_fault, concept_fault, concepts_fault}
use Rattle.canonical_paths.proofs.CheckedConcepts.{AreUnique, AreWithin, has_name, one_more, take_within, line_within, lineage_within, unique_more}
use Rattle.canonical_paths.proofs.FittingItems.{AreAmong, extends_itself}
use Rattle.canonical_paths.proofs.FittingConcepts.{extends_one}
use Rattle.concept_walk.proofs.LeadingItems.{ItemLeads, item_leads_wide, items_lead}

-- each of these items leads from all of them
abbrev pub AllLead : List ConceptTree → List ItemTree → Type 0
AllLead concepts items = (i : ItemTree) → Contains items i → ItemLeads concepts items i

-- an item of these concepts, and the concept that has it
record OfConcept (cs : List ConceptTree) (i : ItemTree) : Type 0 where
  concept : ConceptTree
  there : Contains cs concept
  own : Contains concept.items i

-- each item of concepts is one of a concept
of_concept : (cs : List ConceptTree) (i : ItemTree) → Contains (all_items cs) i → OfConcept cs i
of_concept [] i h = absurd (contains_none i h)
of_concept (c ∷ cs) i h =
    ⊎_elim
    (λ k. record { concept = c; there = contains_here c cs; own = k })
    (λ k. let r = of_concept cs i k in record { concept = r.concept; there = contains_there c cs r.concept r.there; own = r.own })
    (Contains-append_cases c.items (all_items cs) i h)

-- the items of a concept are among those of several that have it
in_all_items : (cs : List ConceptTree) (c : ConceptTree) → Contains cs c → AreAmong c.items (all_items cs)
in_all_items [] c h i k = absurd (contains_none c h)
in_all_items (d ∷ cs) c h i k =
    ⊎_elim
    (λ e. Contains-append_left d.items (all_items cs) i (subst (λ (x : ConceptTree). Contains x.items i) (sym e) k))
    (λ g. Contains-append_right d.items (all_items cs) i (in_all_items cs c g i k))
    (contains_cases d cs c h)

-- fewer concepts have no other items
within_items : (cs wide : List ConceptTree) → AreWithin cs wide → AreAmong (all_items cs) (all_items wide)
within_items cs wide w i h = let r = of_concept cs i h in in_all_items wide r.concept (w r.concept r.there) i r.own

-- what is taken stays, where one more concept is taken
stays : (taken : List ConceptTree) (c : ConceptTree) → AreWithin taken (take_concept taken c)
stays taken c = by (is_among c.name.text (concept_names taken))
  where
    by : (t : Bool) → AreWithin taken (if t then taken else taken ++ c ∷ [])
    by true = λ a k. k
    by false = λ a k. Contains-append_left taken (c ∷ []) a k

-- and where a line is
line_stays : (taken line : List ConceptTree) → AreWithin taken (fold take_concept taken line)
line_stays taken [] = λ a k. k
line_stays taken (c ∷ line) = λ a k. line_stays (take_concept taken c) line a (stays taken c a k)

-- what is taken behind one more concept was taken before, or is that concept
one_taken : (taken : List ConceptTree) (c a : ConceptTree) → Contains (take_concept taken c) a → Contains taken a ⊎ (c ≡ a)
one_taken taken c a = by (is_among c.name.text (concept_names taken))
  where
    by : (t : Bool) → Contains (if t then taken else taken ++ c ∷ []) a → Contains taken a ⊎ (c ≡ a)
    by true k = inl k
    by false k = Contains-push_cases taken c a k

-- or is of the line
line_taken : (taken line : List ConceptTree) (a : ConceptTree) → Contains (fold take_concept taken line) a → Contains taken a ⊎ Contains line a
line_taken taken [] a h = inl h
line_taken taken (c ∷ line) a h =
    ⊎_elim
    (λ k. ⊎_elim (λ g. inl g) (λ e. inr (subst (Contains (c ∷ line)) e (contains_here c line))) (one_taken taken c a k))
    (λ k. inr (contains_there c line a k))
    (line_taken (take_concept taken c) line a h)

module _ (all : List ConceptTree) (unique : AreUnique all) where
  -- a concept that is taken is there
  takes : (taken : List ConceptTree) (c : ConceptTree) → AreWithin taken all → Contains all c → Contains (take_concept taken c) c
  takes taken c w h = by (is_among c.name.text (concept_names taken)) refl
    where
      by : (t : Bool) → is_among c.name.text (concept_names taken) ≡ t → Contains (if t then taken else taken ++ c ∷ []) c
      by true e =
          let r = has_name taken c.name.text e in
          let same : c ≡ r.concept = unique c r.concept h (w r.concept r.there) r.same in
          subst (Contains taken) (sym same) r.there
      by false e = Contains-append_right taken (c ∷ []) c (contains_here c [])

  -- so is each of a line
  line_there : (taken line : List ConceptTree) → AreWithin taken all → AreWithin line all → AreWithin line (fold take_concept taken line)
  line_there taken [] w l a k = absurd (contains_none a k)
  line_there taken (c ∷ line) w l a k =
      let there = l c (contains_here c line) in
      ⊎_elim
      (λ e. subst (Contains (fold take_concept (take_concept taken c) line)) e (line_stays (take_concept taken c) line c (takes taken c w there)))
      (λ g. line_there (take_concept taken c) line (take_within all taken c w there) (λ b m. l b (contains_there c line b m)) a g)
      (contains_cases c line a k)

  -- items lead from more of them
  wide_items : (items wide : List ItemTree) → AreAmong items wide → (i : ItemTree) → ItemLeads all items i → ItemLeads all wide i
  wide_items items wide among i h = item_leads_wide all all (extends_itself all) items wide among i h

  -- where the items that are taken lead, and those of a line do, all do together
  line_leads : (taken line : List ConceptTree) → AreWithin taken all → AreWithin line all → AllLead all (all_items taken) → AllLead all (all_items line) → AllLead all (all_items (fold take_concept taken line))
  line_leads taken line w l h k i c =
      let r = of_concept (fold take_concept taken line) i c in
      ⊎_elim
      (λ g. wide_items (all_items taken) (all_items (fold take_concept taken line)) (within_items taken (fold take_concept taken line) (line_stays taken line)) i (h i (in_all_items taken r.concept g i r.own)))
      (λ g. wide_items (all_items line) (all_items (fold take_concept taken line)) (within_items line (fold take_concept taken line) (line_there taken line w l)) i (k i (in_all_items line r.concept g i r.own)))
      (line_taken taken line r.concept r.there)

  -- so do the items that parents bring
  parents_lead : ((name : List ℕ) → AllLead all (effective_items all name)) → (taken : List ConceptTree) (ps : List Named) → AreWithin taken all → AllLead all (all_items taken) → AllLead all (all_items (fold (take_parent (lineage all)) taken ps))
  parents_lead known taken [] w h = h
  parents_lead known taken (p ∷ ps) w h =
      parents_lead known (take_parent (lineage all) taken p) ps
      (line_within all taken (lineage all p.text) w (lineage_within all p.text))
      (line_leads taken (lineage all p.text) w (lineage_within all p.text) h (known p.text))

-- what is known of concepts that passed: no two have one name, and the items of each lead
pub record AreLeading (all : List ConceptTree) : Type 0 where
  pub unique : AreUnique all
  pub known : (name : List ℕ) → AllLead all (effective_items all name)

-- the items of one more concept lead, behind what it inherits, where they pass
with_items :
    (all : List ConceptTree) (c : ConceptTree) → AreLeading all
    → items_fault all (all_items (ancestors all c.parents)) c.items ≡ Ok tt
    → AllLead all (all_items (ancestors all c.parents ++ c ∷ []))
with_items all c h passes = subst (AllLead all) (sym (one_more (ancestors all c.parents) c)) both
  where
    inherited : AllLead all (all_items (ancestors all c.parents))
    inherited = parents_lead all h.unique h.known [] c.parents (λ a k. absurd (contains_none a k)) (λ i k. absurd (contains_none i k))

    both : AllLead all (all_items (ancestors all c.parents) ++ c.items)
    both i k =
        ⊎_elim
        (λ g. wide_items all h.unique (all_items (ancestors all c.parents)) (all_items (ancestors all c.parents) ++ c.items) (λ a m. Contains-append_left (all_items (ancestors all c.parents)) c.items a m) i (inherited i g))
        (λ g. items_lead all (all_items (ancestors all c.parents)) c.items passes i g)
        (Contains-append_cases (all_items (ancestors all c.parents)) c.items i k)

-- so it is for all concepts with it, where its name is new
wide_leads :
    (all : List ConceptTree) (c : ConceptTree) → AreLeading all
    → AllLead all (all_items (ancestors all c.parents ++ c ∷ []))
    → is_among c.name.text (concept_names all) ≡ false → AreLeading (c ∷ all)
wide_leads all c h own fresh = record {
  unique = unique_more all c h.unique fresh;
  known = λ n i k.
      item_leads_wide all (c ∷ all) (extends_one c all fresh) (effective_items (c ∷ all) n) (effective_items (c ∷ all) n) (λ a m. m) i
      (by n (bytes_eq c.name.text n) own (h.known n) i k);
}
  where
    by : (n : List ℕ) (t : Bool) → AllLead all (all_items (ancestors all c.parents ++ c ∷ [])) → AllLead all (effective_items all n) → AllLead all (all_items (if t then ancestors all c.parents ++ c ∷ [] else lineage all n))
    by n true own k = own
    by n false own k = k

not_taken : (t : Bool) → not t ≡ true → t ≡ false
not_taken true e = absurd (cc)
not_taken false e = refl

-- one more concept that passes
one_leads : (all : List ConceptTree) (c : ConceptTree) → AreLeading all → concept_fault all c ≡ Ok tt → AreLeading (c ∷ all)
one_leads all c h ok =
    wide_leads all c h (with_items all c h (second_passes _ _ (second_passes _ _ ok)))
    (not_taken (is_among c.name.text (concept_names all)) (test_passes _ _ (second_passes _ _ (first_passes _ _ ok))))

-- concepts that pass one behind the other
all_lead : (before cs : List ConceptTree) → AreLeading before → concepts_fault before cs ≡ Ok tt → AreLeading (reverse cs ++ before)
all_lead before [] h ok = h
all_lead before (c ∷ cs) h ok =
    let e : reverse cs ++ c ∷ before ≡ reverse (c ∷ cs) ++ before = sym (append_assoc (reverse cs) (c ∷ []) before) ∙ ap (λ (ds : List ConceptTree). ds ++ before) (sym (reverse-append (c ∷ []) cs)) in
    subst AreLeading e (all_lead (c ∷ before) cs (one_leads before c h (first_passes _ _ ok)) (second_passes _ _ ok))

-- the concepts of a file that keeps the rules
pub kept_lead : (cs : List ConceptTree) → concepts_fault [] cs ≡ Ok tt → AreLeading (reverse cs)
kept_lead cs ok =
    subst AreLeading (append-nil (reverse cs))
    (all_lead [] cs (record { unique = λ a b k. absurd (contains_none a k); known = λ name i k. absurd (contains_none i k) }) ok)
