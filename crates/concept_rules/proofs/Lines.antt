-- The items of the concepts of a line, in a extent of the file.
use Rattle.std.proofs.Common.{◌≡◌, ℕ, zero, suc, ◌<◌, Bool, true, false, List, [], ◌∷◌, map, take, nat_lt, nat_eq, rules, Some, None, refl, sym, ap, ◌∙◌, subst, All, arith}
use Rattle.std.specs.Prelude.{slice_get, option_map}
use Rattle.std.specs.List.{flat_map}
use Rattle.std.proofs.lemmas.List.Elements.{All-head, All-tail, All-contains}
use Rattle.std.proofs.lemmas.Option.{slice_get-map}
use Rattle.std.proofs.lemmas.Bool.{lt-ltb, ltb-true}
use Rattle.utopist_syntax.specs.declared.concept.Concept.{Concept}
use Rattle.utopist_syntax.specs.FileTree.{ItemTree, ConceptTree, item_tree, concept_tree}
use Rattle.concept_rules.specs.Declarations.{is_declared}
use Rattle.concept_rules.specs.Lineage.{all_items}
use Rattle.concept_rules.specs.steps.Extent.{Extent, concept_of, own_items, checked_items, IsLine, IsHere}
use Rattle.concept_rules.proofs.Items.{there_whole}

-- what was checked of a concept that was checked is all of it
pub seen_below : (f : Extent) (n : ℕ) → n < f.concept → checked_items f n ≡ own_items f.all n
seen_below f n lt = rw (lt-ltb n f.concept lt) refl

pub not_below : (n m : ℕ) (b : Bool) → nat_lt n m ≡ b → (n < m → ⊥) → nat_lt n m ≡ false
not_below n m true e h = absurd (h (ltb-true n m e))
not_below n m false e h = e

pub equal_itself : (n : ℕ) → nat_eq n n ≡ true
equal_itself n = search rules

-- what was checked of the concept at hand
pub seen_last : (f : Extent) → checked_items f f.concept ≡ take f.items (own_items f.all f.concept)
seen_last f =
    rw (not_below f.concept f.concept (nat_lt f.concept f.concept) refl (λ h. omega (arith, h)), equal_itself f.concept) refl

module _ (f : Extent) where
  seen_front :
      (n j : ℕ) (i : ItemTree) (b d : Bool) → nat_lt n f.concept ≡ b → nat_eq n f.concept ≡ d
      → slice_get (checked_items f n) j ≡ Some i → slice_get (own_items f.all n) j ≡ Some i
  seen_front n j i true d e g h = rw e at h
  seen_front n j i false true e g h = there_whole f.items (own_items f.all n) j i (rw (e, g) at h)
  seen_front n j i false false e g h = let none : slice_get {X = ItemTree} [] j ≡ Some i = rw (e, g) at h in absurd (cc)

  -- what was checked at a place stands there
  pub seen_there :
      (n j : ℕ) (i : ItemTree) → slice_get (checked_items f n) j ≡ Some i
      → slice_get (own_items f.all n) j ≡ Some i
  seen_there n j i h = seen_front n j i (nat_lt n f.concept) (nat_eq n f.concept) refl refl h

  pub items_of_line :
      (line : List ℕ) → All (λ n. n < f.concept) line
      → all_items (map (concept_of f.all) line) ≡ flat_map (checked_items f) line
  items_of_line [] h = refl
  items_of_line (n ∷ line) h =
      let first = seen_below f n (All-head (λ n. n < f.concept) n line h) in
      let rest = items_of_line line (All-tail (λ n. n < f.concept) n line h) in
      rw (first, sym rest) refl

  -- a line of concepts that were checked, at any point behind them
  pub line_here :
      (line : List ℕ) (cs : List ConceptTree) → IsLine f.all f.concept line cs
      → IsHere f line (all_items cs)
  line_here line cs h = record {
    items = ap all_items h.concepts ∙ items_of_line line h.below;
    apart = λ name n m c d a b.
        let ln = All-contains (λ n. n < f.concept) line n h.below c in
        let lm = All-contains (λ n. n < f.concept) line m h.below d in
        h.apart name n m c d
        (subst (λ (items : List ItemTree). is_declared items name ≡ true) (seen_below f n ln) a)
        (subst (λ (items : List ItemTree). is_declared items name ≡ true) (seen_below f m lm) b);
  }

-- the item of a concept of the file
pub record Stands (concepts : List Concept) (n j : ℕ) (i : ItemTree) : Type 0 where
  pub concept : Concept
  pub there : slice_get concepts n ≡ Some concept
  pub item : option_map item_tree (slice_get concept.items j) ≡ Some i

concept_there :
    (concepts : List Concept) (n j : ℕ) (i : ItemTree)
    → slice_get (own_items (map concept_tree concepts) n) j ≡ Some i → Stands concepts n j i
concept_there [] n j i h = absurd (cc)
concept_there (c ∷ cs) zero j i h = record { concept = c; there = refl; item = sym (slice_get-map item_tree c.items j) ∙ h }
concept_there (c ∷ cs) (suc n) j i h = let r = concept_there cs n j i h in record { concept = r.concept; there = r.there; item = r.item }

-- what was checked at a place is an item of the file
pub item_there :
    (f : Extent) (concepts : List Concept) (n j : ℕ) (i : ItemTree)
    → f.all ≡ map concept_tree concepts → slice_get (checked_items f n) j ≡ Some i
    → Stands concepts n j i
item_there f concepts n j i same h =
    concept_there concepts n j i (subst (λ (all : List ConceptTree). slice_get (own_items all n) j ≡ Some i) same (seen_there f n j i h))

own_past :
    (concepts : List Concept) (n : ℕ) → slice_get concepts n ≡ None
    → own_items (map concept_tree concepts) n ≡ []
own_past [] n h = refl
own_past (c ∷ cs) zero h = absurd (cc)
own_past (c ∷ cs) (suc n) h = own_past cs n h

-- where there is no concept there are no items
pub own_none :
    (f : Extent) (concepts : List Concept) (n : ℕ) → f.all ≡ map concept_tree concepts
    → slice_get concepts n ≡ None → own_items f.all n ≡ []
own_none f concepts n same h =
    ap (λ (all : List ConceptTree). own_items all n) same ∙ own_past concepts n h
