-- Looking a text up by its bytes among keys that are texts, whichever way a key is read.
use Rattle.std.proofs.Common.{◌≡◌, ◌≢◌, ℕ, Bool, true, false, ◌||◌, List, [], ◌∷◌, ◌++◌, Option, Some, None, is_some, ◌↔◌, get_or, ap, ◌∙◌, sym, refl, subst, position}
use Rattle.std.specs.Prelude.{Contains, map, slice_get, IsSome, IfSome}
use Rattle.std.specs.List.{list_any, AllPairs}
use Rattle.std.specs.Option.{option_map}
use Rattle.std.specs.Str.{bytes_eq}
use Rattle.std.proofs.lemmas.Cmp.{nat_list_eq_equiv}
use Rattle.std.proofs.lemmas.List.{map-append}
use Rattle.std.proofs.lemmas.List.Elements.{Contains-get_or}
use Rattle.std.proofs.lemmas.List.Quantifiers.{position-Some, all_pairs_push}
use Rattle.std.proofs.lemmas.Map.Views.{list_any-from_Contains}
use Rattle.std.proofs.lemmas.Option.{slice_get-map, slice_get-get_or, slice_get_within, get_or_from_slice_get}
use Rattle.std.proofs.lemmas.Slice.Eq.{bytes_eq-Decides}
use Rattle.indexmap.specs.IndexSet.{insert_key}
use Rattle.indexmap.proofs.CallerLemmas.{Contains-list_any}

-- what stands in a list is one of its members
pub member_at : {X : Type 0} (xs : List X) (i : ℕ) (x : X) → slice_get xs i ≡ Some x → Contains xs x
member_at xs i x at = (i, slice_get_within xs i x at, get_or_from_slice_get xs i x x at)

-- elements that differ still do where a new one goes last
pub differ_push :
    {X : Type 0} (xs : List X) (x : X) → AllPairs (λ x y. x ≢ y) xs → (Contains xs x → ⊥)
    → AllPairs (λ x y. x ≢ y) (xs ++ x ∷ [])
differ_push xs x pairs fresh =
    all_pairs_push (λ x y. x ≢ y) xs x pairs (λ k d lt e. fresh (subst (Contains xs) e (Contains-get_or xs k d lt)))

module _ {X : Type 0} (read : X → List ℕ) where
  -- the key is spelt by these bytes
  abbrev pub spelt : List ℕ → X → Bool
  spelt bs k = bytes_eq bs (read k)

  key_found :
      (ks : List X) (bs : List ℕ) (i : ℕ) → position (spelt bs) ks ≡ Some i
      → slice_get (map read ks) i ≡ Some bs
  key_found [] bs i e = cc
  key_found (k ∷ ks) bs i e =
      let f = position-Some (spelt bs) (k ∷ ks) i k e in
      let same : bs ≡ read (get_or (k ∷ ks) i k) = (bytes_eq-Decides bs (read (get_or (k ∷ ks) i k))).0 f.1 in
      slice_get-map read (k ∷ ks) i ∙ ap (option_map read) (slice_get-get_or (k ∷ ks) i k f.0)
      ∙ ap Some (sym same)

  any_read :
      (ks : List X) (bs : List ℕ) → list_any (spelt bs) ks ≡ list_any (bytes_eq bs) (map read ks)
  any_read [] bs = refl
  any_read (k ∷ ks) bs = ap (λ b. bytes_eq bs (read k) || b) (any_read ks bs)

  key_missing :
      (ks : List X) (bs : List ℕ) → list_any (spelt bs) ks ≡ false → Contains (map read ks) bs → ⊥
  key_missing ks bs none there =
      let some : list_any (bytes_eq bs) (map read ks) ≡ true = list_any-from_Contains nat_list_eq_equiv bs (map read ks) there in
      let same = any_read ks bs in
      cc

  key_new :
      (ks : List X) (bs : List ℕ) → (Contains (map read ks) bs → ⊥) → list_any (spelt bs) ks ≡ false
  key_new ks bs fresh = by (list_any (bytes_eq bs) (map read ks)) refl
    where
      by : (b : Bool) → list_any (bytes_eq bs) (map read ks) ≡ b → list_any (spelt bs) ks ≡ false
      by true e =
          absurd (fresh (Contains-list_any bytes_eq (λ x y. (bytes_eq-Decides x y).0) (map read ks) bs e))
      by false e = any_read ks bs ∙ e

  -- a new key goes last
  pub key_added :
      (ks : List X) (k : X) → (Contains (map read ks) (read k) → ⊥)
      → map read (insert_key (λ x y. bytes_eq (read x) (read y)) ks k) ≡ map read ks ++ read k ∷ []
  key_added ks k fresh = rw (key_new ks (read k) fresh) (map-append read ks (k ∷ []))

  pub place_found :
      (ks : List X) (bs : List ℕ) (o : Option ℕ) → o ≡ position (spelt bs) ks
      → is_some o ≡ list_any (spelt bs) ks → IsSome o ↔ Contains (map read ks) bs
  place_found ks bs None at some = (λ s. absurd (cc), λ there. absurd (key_missing ks bs (sym some) there))
  place_found ks bs (Some i) at some = (λ s. member_at (map read ks) i bs (key_found ks bs i (sym at)), λ there. refl)

  pub place_is :
      (ks : List X) (bs : List ℕ) (o : Option ℕ) → o ≡ position (spelt bs) ks
      → IfSome o (λ i. slice_get (map read ks) i ≡ Some bs)
  place_is ks bs None at = tt
  place_is ks bs (Some i) at = key_found ks bs i (sym at)
