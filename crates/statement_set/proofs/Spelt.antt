-- Looking a name up among the names of the variables.
use Rattle.std.proofs.Common.{◌≡◌, ℕ, Bool, true, false, ◌||◌, List, [], ◌∷◌, ◌++◌, Option, Some, None, is_some, ◌↔◌, get_or, ap, ◌∙◌, sym, refl, subst, position}
use Rattle.std.specs.Prelude.{String, Contains, map, slice_get, string_bytes, string_eq, IsSome, IfSome}
use Rattle.std.specs.List.{list_any}
use Rattle.std.specs.Option.{option_map}
use Rattle.std.specs.Str.{bytes_eq}
use Rattle.std.proofs.lemmas.Cmp.{nat_list_eq_equiv}
use Rattle.std.proofs.lemmas.List.{map-append}
use Rattle.std.proofs.lemmas.List.Quantifiers.{position-Some}
use Rattle.std.proofs.lemmas.Map.Views.{list_any-from_Contains}
use Rattle.std.proofs.lemmas.Option.{slice_get-map, slice_get-get_or}
use Rattle.std.proofs.lemmas.Slice.Eq.{bytes_eq-Decides}
use Rattle.statement_set.proofs.Lists.{contains_at}
use Rattle.indexmap.specs.IndexSet.{insert_key}
use Rattle.indexmap.proofs.CallerLemmas.{Contains-list_any}

module _ {Z : Type 0} where
  -- the texts as bytes
  abbrev pub bytes_of : List (String Z) → List (List ℕ)
  bytes_of ks = map string_bytes ks

  -- the text is spelt by these bytes
  abbrev pub spelt : List ℕ → String Z → Bool
  spelt bs k = bytes_eq bs (string_bytes k)

  pub name_found : (ks : List (String Z)) (bs : List ℕ) (i : ℕ) → position (spelt bs) ks ≡ Some i → slice_get (bytes_of ks) i ≡ Some bs
  name_found [] bs i e = cc
  name_found (k ∷ ks) bs i e =
      let f = position-Some (spelt bs) (k ∷ ks) i k e in
      let same : bs ≡ string_bytes (get_or (k ∷ ks) i k) = (bytes_eq-Decides bs (string_bytes (get_or (k ∷ ks) i k))).0 f.1 in
      slice_get-map string_bytes (k ∷ ks) i ∙ ap (option_map string_bytes) (slice_get-get_or (k ∷ ks) i k f.0) ∙ ap Some (sym same)

  spelt_among : (ks : List (String Z)) (bs : List ℕ) → list_any (spelt bs) ks ≡ list_any (bytes_eq bs) (bytes_of ks)
  spelt_among [] bs = refl
  spelt_among (k ∷ ks) bs = ap (λ b. bytes_eq bs (string_bytes k) || b) (spelt_among ks bs)

  pub name_missing : (ks : List (String Z)) (bs : List ℕ) → list_any (spelt bs) ks ≡ false → Contains (bytes_of ks) bs → ⊥
  name_missing ks bs e c =
      let there : list_any (bytes_eq bs) (bytes_of ks) ≡ true = list_any-from_Contains nat_list_eq_equiv bs (bytes_of ks) c in
      let same = spelt_among ks bs in
      cc

  pub name_new : (ks : List (String Z)) (bs : List ℕ) → (Contains (bytes_of ks) bs → ⊥) → list_any (spelt bs) ks ≡ false
  name_new ks bs lacks = by (list_any (bytes_eq bs) (bytes_of ks)) refl
    where
      by : (b : Bool) → list_any (bytes_eq bs) (bytes_of ks) ≡ b → list_any (spelt bs) ks ≡ false
      by true e = absurd (lacks (Contains-list_any bytes_eq (λ x y. (bytes_eq-Decides x y).0) (bytes_of ks) bs e))
      by false e = spelt_among ks bs ∙ e

  -- a new name goes to the end
  pub name_added : (ks : List (String Z)) (k : String Z) (bs : List ℕ) → string_bytes k ≡ bs → (Contains (bytes_of ks) bs → ⊥) → bytes_of (insert_key string_eq ks k) ≡ bytes_of ks ++ bs ∷ []
  name_added ks k bs is lacks =
      let n : list_any (string_eq k) ks ≡ false = name_new ks (string_bytes k) (λ c. lacks (subst (Contains (bytes_of ks)) is c)) in
      rw n (map-append string_bytes ks (k ∷ []) ∙ ap (λ b. bytes_of ks ++ b ∷ []) is)

  pub place_found : (ks : List (String Z)) (bs : List ℕ) (o : Option ℕ) → o ≡ position (spelt bs) ks → is_some o ≡ list_any (spelt bs) ks → IsSome o ↔ Contains (bytes_of ks) bs
  place_found ks bs None e f = (λ s. absurd (cc), λ h. absurd (name_missing ks bs (sym f) h))
  place_found ks bs (Some i) e f = (λ s. contains_at (bytes_of ks) i bs (name_found ks bs i (sym e)), λ h. refl)

  pub place_is : (ks : List (String Z)) (bs : List ℕ) (o : Option ℕ) → o ≡ position (spelt bs) ks → IfSome o (λ i. slice_get (bytes_of ks) i ≡ Some bs)
  place_is ks bs None e = tt
  place_is ks bs (Some i) e = name_found ks bs i (sym e)
