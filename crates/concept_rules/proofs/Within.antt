-- The items of the concept at hand, from the first to the last.
use Rattle.std.proofs.Common.{◌≡◌, ℕ, ◌+◌, ◌<◌, true, List, [], ◌∷◌, ◌++◌, take, drop, Ok, sym, ap, ◌∙◌, subst, ⊎_elim, append_assoc}
use Rattle.std.specs.Prelude.{Contains}
use Rattle.std.specs.List.{flat_map}
use Rattle.std.proofs.lemmas.List.{append-nil}
use Rattle.std.proofs.lemmas.Grind.{flat_map-append}
use Rattle.std.proofs.lemmas.List.Elements.{All-contains, Contains-push_cases}
use Rattle.body_lang.specs.Verdicts.{and_then}
use Rattle.utopist_syntax.specs.declared.concept.Concept.{Concept}
use Rattle.utopist_syntax.specs.FileTree.{ItemTree, ConceptTree}
use Rattle.concept_rules.specs.Declarations.{is_declared}
use Rattle.concept_rules.specs.Lineage.{all_items}
use Rattle.concept_rules.specs.ItemRules.{item_fault}
use Rattle.concept_rules.specs.ConceptRules.{items_fault}
use Rattle.concept_rules.specs.steps.DeclaredNames.{Declared}
use Rattle.concept_rules.specs.Lineages.{Lines}
use Rattle.concept_rules.specs.steps.Extent.{extent, own_items, checked_items, IsApart, IsLine, IsHere, Reached}
use Rattle.concept_rules.proofs.Lines.{seen_below, seen_last, items_of_line}
use Rattle.concept_rules.proofs.Steps.{WithinItems}

module _ (all : List ConceptTree) (n : ℕ) (before : List ConceptTree) (line : List ℕ)
    (cs : List ConceptTree) (is : IsLine all n line cs) where
  nothing_last :
      (name : List ℕ) (k : ℕ) → n ≡ k
      → is_declared (checked_items (extent all n before 0) k) name ≡ true → ⊥
  nothing_last name k e h =
      let none : is_declared (checked_items (extent all n before 0) n) name ≡ true = subst (λ j. is_declared (checked_items (extent all n before 0) j) name ≡ true) (sym e) h in
      let t : is_declared [] name ≡ true = subst (λ (xs : List ItemTree). is_declared xs name ≡ true) (seen_last (extent all n before 0)) none in
      absurd (cc)

  whole :
      (name : List ℕ) (k : ℕ) → Contains line k
      → is_declared (checked_items (extent all n before 0) k) name ≡ true
      → is_declared (own_items all k) name ≡ true
  whole name k c h =
      subst (λ (xs : List ItemTree). is_declared xs name ≡ true) (seen_below (extent all n before 0) k (All-contains (λ j. j < n) line k is.below c)) h

  -- before the first item
  pub start_apart : IsApart (checked_items (extent all n before 0)) (line ++ n ∷ [])
  start_apart = λ name a b ca cb da db.
      ⊎_elim
      (λ la. ⊎_elim (λ lb. is.apart name a b la lb (whole name a la da) (whole name b lb db)) (λ e. absurd (nothing_last name b e db)) (Contains-push_cases line n b cb))
      (λ e. absurd (nothing_last name a e da))
      (Contains-push_cases line n a ca)

  -- the items before the next one
  pub items_here :
      (m : ℕ) (here : List ℕ) → here ≡ line ++ n ∷ []
      → IsApart (checked_items (extent all n before m)) here
      → IsHere (extent all n before m) here (all_items cs ++ take m (own_items all n))
  items_here m here e apart = record {
    items =
        let inner = ap all_items is.concepts ∙ items_of_line (extent all n before m) line is.below in
        let last = sym (append-nil (checked_items (extent all n before m) n)) in
        sym (ap (flat_map (checked_items (extent all n before m))) e ∙ flat_map-append (checked_items (extent all n before m)) line (n ∷ []) ∙ ap (λ (xs : List ItemTree). xs ++ (checked_items (extent all n before m) n ++ [])) (sym inner) ∙ ap (λ (xs : List ItemTree). all_items cs ++ xs) (sym last ∙ seen_last (extent all n before m)));
    apart = apart;
  }

  pub start :
      (here : List ℕ) (concepts : List Concept) (l : Lines) (d : Declared) → here ≡ line ++ n ∷ []
      → Reached (extent all n before 0) concepts l d → WithinItems all n before here concepts l d 0 cs
  start here concepts l d e at = record {
    found = at;
    apart = subst (IsApart (checked_items (extent all n before 0))) (sym e) start_apart;
    verdict =
        ap (λ (xs : List ItemTree). items_fault before xs (own_items all n)) (sym (append-nil (all_items cs)));
  }

  -- behind one more item
  pub verdict_next :
      (m : ℕ) (item : ItemTree)
      → take (m + 1) (own_items all n) ≡ take m (own_items all n) ++ item ∷ []
      → drop m (own_items all n) ≡ item ∷ drop (m + 1) (own_items all n)
      → item_fault before (all_items cs ++ take m (own_items all n)) item ≡ Ok tt
      → items_fault before (all_items cs ++ take m (own_items all n)) (drop m (own_items all n))
      ≡ items_fault before (all_items cs ++ take (m + 1) (own_items all n)) (drop (m + 1) (own_items all n))
  verdict_next m item more rest ok =
      let A = all_items cs in
      let T = take m (own_items all n) in
      ap (items_fault before (A ++ T)) rest
      ∙ ap (λ v. and_then v (items_fault before ((A ++ T) ++ item ∷ []) (drop (m + 1) (own_items all n)))) ok
      ∙ ap (λ (xs : List ItemTree). items_fault before xs (drop (m + 1) (own_items all n))) (append_assoc A T (item ∷ []) ∙ ap (λ (xs : List ItemTree). A ++ xs) (sym more))
