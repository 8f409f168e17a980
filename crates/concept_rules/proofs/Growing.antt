-- One more item of the concept at hand.
use Rattle.std.proofs.Common.{◌≡◌, ◌≢◌, ◌⊎◌, inl, inr, ℕ, suc, ◌+◌, Bool, true, false, ◌&&◌, nat_eq, if◌then◌else◌, List, [], ◌∷◌, ◌++◌, length, take, Option, Some, None, refl, sym, ap, ◌∙◌, subst, ⊎_elim, AllPairs, rules}
use Rattle.std.specs.Prelude.{Contains, option_map, is_some}
use Rattle.std.specs.List.{flat_map}
use Rattle.std.specs.Option.{option_or}
use Rattle.utopist_syntax.specs.FileTree.{ItemTree, ConceptTree}
use Rattle.concept_rules.specs.Declarations.{is_among, declared, declaration, is_declared}
use Rattle.concept_rules.specs.steps.DeclaredNames.{Declared, item_in, HasMore}
use Rattle.concept_rules.specs.steps.Extent.{extent, own_items, checked_items, item_place, IsIndex, IsApart}
use Rattle.concept_rules.proofs.Items.{declaration-append}
use Rattle.concept_rules.proofs.Lines.{seen_last, equal_itself}
use Rattle.concept_rules.proofs.Sharing.{declared_in}

pub nat_eq_true : (n m : ℕ) → nat_eq n m ≡ true → n ≡ m
nat_eq_true n m e = search rules

pub not_equal : (n m : ℕ) (b : Bool) → nat_eq n m ≡ b → (n ≡ m → ⊥) → nat_eq n m ≡ false
not_equal n m true e h = absurd (h (nat_eq_true n m e))
not_equal n m false e h = e

place_last :
    (i : ItemTree) (xs : List ItemTree) (name : List ℕ) (j : ItemTree) (b : Bool)
    → is_among name (declared j) ≡ b → item_place (xs ++ i ∷ []) name
    ≡ option_or (item_place xs name) (if is_among name (declared i) then Some (length xs) else None)
    → item_place (j ∷ (xs ++ i ∷ [])) name
    ≡ option_or (item_place (j ∷ xs) name) (if is_among name (declared i) then Some (suc (length xs)) else None)
place_last i xs name j true e rest = rw e refl
place_last i xs name j false e rest = rw (e, rest) (moved (item_place xs name) (is_among name (declared i)) (length xs))
  where
    moved :
        (o : Option ℕ) (b : Bool) (n : ℕ)
        → option_map suc (option_or o (if b then Some n else None))
        ≡ option_or (option_map suc o) (if b then Some (suc n) else None)
    moved None true n = refl
    moved None false n = refl
    moved (Some k) b n = refl

place_alone :
    (i : ItemTree) (name : List ℕ) (b : Bool) → is_among name (declared i) ≡ b
    → item_place (i ∷ []) name ≡ (if is_among name (declared i) then Some 0 else None)
place_alone i name true e = rw e refl
place_alone i name false e = rw e refl

-- the place of a name among one more item
pub place_more :
    (xs : List ItemTree) (i : ItemTree) (name : List ℕ) → item_place (xs ++ i ∷ []) name
    ≡ option_or (item_place xs name) (if is_among name (declared i) then Some (length xs) else None)
place_more [] i name = place_alone i name (is_among name (declared i)) refl
place_more (j ∷ xs) i name =
    place_last i xs name j (is_among name (declared j)) refl (place_more xs i name)

-- names that these items don't declare, each of which stands there once
pub record New (items : List ItemTree) (names : List (List ℕ)) : Type 0 where
  pub new : (name : List ℕ) → is_among name names ≡ true → is_declared items name ≡ false
  pub once : AllPairs (λ a b. a ≢ b) names

module _ (all : List ConceptTree) (n : ℕ) (before : List ConceptTree) (m : ℕ) (item : ItemTree)
    (is : take (m + 1) (own_items all n) ≡ take m (own_items all n) ++ item ∷ [])
    (long : length (take m (own_items all n)) ≡ m) where
  -- what was checked of the concept at hand, and of another one
  pub seen_more :
      checked_items (extent all n before (m + 1)) n
      ≡ checked_items (extent all n before m) n ++ item ∷ []
  seen_more =
      seen_last (extent all n before (m + 1)) ∙ is
      ∙ ap (λ (xs : List ItemTree). xs ++ item ∷ []) (sym (seen_last (extent all n before m)))

  pub seen_other :
      (k : ℕ) → nat_eq k n ≡ false
      → checked_items (extent all n before (m + 1)) k ≡ checked_items (extent all n before m) k
  seen_other k e = rw e refl

  module _ (old new : Declared) (index : IsIndex (extent all n before m) old)
      (more : HasMore old new n m (declared item)) where
    index_here :
        (name : List ℕ) (b : Bool) → is_among name (declared item) ≡ b
        → (is_among name (declared item) ≡ true → item_place (take m (own_items all n)) name ≡ None)
        → item_in new name n ≡ item_place (checked_items (extent all n before (m + 1)) n) name
    index_here name true e fresh =
        let none = fresh e in
        let place : item_place (checked_items (extent all n before (m + 1)) n) name ≡ Some m = ap (λ (xs : List ItemTree). item_place xs name) (seen_last (extent all n before (m + 1)) ∙ is) ∙ place_more (take m (own_items all n)) item name ∙ rw (none, e, long) refl in
        let picked : (if nat_eq n n && is_among name (declared item) then Some m else item_in old name n) ≡ Some m = rw (equal_itself n, e) refl in
        more name n ∙ picked ∙ sym place
    index_here name false e fresh =
        let place : item_place (checked_items (extent all n before (m + 1)) n) name ≡ item_place (take m (own_items all n)) name = ap (λ (xs : List ItemTree). item_place xs name) (seen_last (extent all n before (m + 1)) ∙ is) ∙ place_more (take m (own_items all n)) item name ∙ rw e (or_none (item_place (take m (own_items all n)) name)) in
        let picked : (if nat_eq n n && is_among name (declared item) then Some m else item_in old name n) ≡ item_in old name n = rw (equal_itself n, e) refl in
        more name n ∙ picked ∙ index name n
        ∙ ap (λ (xs : List ItemTree). item_place xs name) (seen_last (extent all n before m))
        ∙ sym place
      where
        or_none : (o : Option ℕ) → option_or o None ≡ o
        or_none None = refl
        or_none (Some k) = refl

    index_other :
        (name : List ℕ) (k : ℕ) → nat_eq k n ≡ false → nat_eq n k ≡ false
        → item_in new name k ≡ item_place (checked_items (extent all n before (m + 1)) k) name
    index_other name k e g =
        let picked : (if nat_eq n k && is_among name (declared item) then Some m else item_in old name k) ≡ item_in old name k = rw g refl in
        more name k ∙ picked ∙ index name k
        ∙ ap (λ (xs : List ItemTree). item_place xs name) (sym (seen_other k e))

    index_case :
        (fresh : (name : List ℕ) → is_among name (declared item) ≡ true → item_place (take m (own_items all n)) name ≡ None)
        (name : List ℕ) (k : ℕ) (b : Bool) → nat_eq k n ≡ b
        → item_in new name k ≡ item_place (checked_items (extent all n before (m + 1)) k) name
    index_case fresh name k true e =
        let same = nat_eq_true k n e in
        subst (λ j. item_in new name j ≡ item_place (checked_items (extent all n before (m + 1)) j) name) (sym same) (index_here name (is_among name (declared item)) refl (fresh name))
    index_case fresh name k false e =
        index_other name k e (not_equal n k (nat_eq n k) refl (λ s. let t : nat_eq k n ≡ true = subst (λ j. nat_eq j n ≡ true) s (equal_itself n) in absurd (cc)))

    -- the names of the item are found too
    pub index_more :
        ((name : List ℕ) → is_among name (declared item) ≡ true → item_place (take m (own_items all n)) name ≡ None)
        → IsIndex (extent all n before (m + 1)) new
    index_more fresh = λ name k. index_case fresh name k (nat_eq k n) refl

  split_step :
      (o : Option ItemTree) (b : Bool) (i : ItemTree)
      → is_some (option_or o (if b then Some i else None)) ≡ true → (is_some o ≡ true) ⊎ (b ≡ true)
  split_step (Some j) b i h = inl refl
  split_step None true i h = inr refl
  split_step None false i h = absurd (cc)

  declared_last :
      (xs : List ItemTree) (name : List ℕ) → is_declared (xs ++ item ∷ []) name ≡ true
      → (is_declared xs name ≡ true) ⊎ (is_among name (declared item) ≡ true)
  declared_last xs name h =
      split_step (declaration xs name) (is_among name (declared item)) item (rw (declaration-append xs (item ∷ []) name) at h)

  module _ (here : List ℕ) (apart : IsApart (checked_items (extent all n before m)) here)
      (new : (name : List ℕ) → is_among name (declared item) ≡ true → is_declared (flat_map (checked_items (extent all n before m)) here) name ≡ false)
    where
      -- one of them is the concept at hand
      one_more :
          (name : List ℕ) (k : ℕ) → Contains here n → Contains here k → nat_eq k n ≡ false
          → is_declared (checked_items (extent all n before (m + 1)) n) name ≡ true
          → is_declared (checked_items (extent all n before (m + 1)) k) name ≡ true → n ≡ k
      one_more name k cn ck e dn dk =
          let ok = subst (λ (xs : List ItemTree). is_declared xs name ≡ true) (seen_other k e) dk in
          ⊎_elim
          (λ on. apart name n k cn ck on ok)
          (λ among. let t = declared_in (checked_items (extent all n before m)) here k name ck ok in let g = new name among in absurd (cc))
          (declared_last (checked_items (extent all n before m) n) name (subst (λ (xs : List ItemTree). is_declared xs name ≡ true) seen_more dn))

      apart_case :
          (name : List ℕ) (a b : ℕ) (s t : Bool) → nat_eq a n ≡ s → nat_eq b n ≡ t → Contains here a
          → Contains here b → is_declared (checked_items (extent all n before (m + 1)) a) name ≡ true
          → is_declared (checked_items (extent all n before (m + 1)) b) name ≡ true → a ≡ b
      apart_case name a b true true e g ca cb da db = nat_eq_true a n e ∙ sym (nat_eq_true b n g)
      apart_case name a b true false e g ca cb da db =
          let same = nat_eq_true a n e in
          same
          ∙ one_more name b (subst (Contains here) same ca) cb g (subst (λ k. is_declared (checked_items (extent all n before (m + 1)) k) name ≡ true) same da) db
      apart_case name a b false true e g ca cb da db =
          let same = nat_eq_true b n g in
          sym (same ∙ one_more name a (subst (Contains here) same cb) ca e (subst (λ k. is_declared (checked_items (extent all n before (m + 1)) k) name ≡ true) same db) da)
      apart_case name a b false false e g ca cb da db =
          apart name a b ca cb (subst (λ (xs : List ItemTree). is_declared xs name ≡ true) (seen_other a e) da) (subst (λ (xs : List ItemTree). is_declared xs name ≡ true) (seen_other b g) db)

      -- no two concepts declare one name
      pub apart_more : IsApart (checked_items (extent all n before (m + 1))) here
      apart_more = λ name a b. apart_case name a b (nat_eq a n) (nat_eq b n) refl refl
