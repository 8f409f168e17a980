-- The first places of the inputs of a relation.
use Rattle.std.proofs.Common.{◌≡◌, ℕ, ◌+◌, ◌<◌, ◌≤◌, List, [], ◌∷◌, ◌++◌, length, map, take, get_or, refl, sym, ap, ◌∙◌, subst, ⊎_elim, arith, length-append}
use Rattle.std.specs.Prelude.{Contains}
use Rattle.std.specs.Str.{bytes_eq}
use Rattle.std.specs.List.{position_or_len}
use Rattle.std.proofs.lemmas.Slice.Eq.{bytes_eq-Decides}
use Rattle.std.proofs.lemmas.List.{map-append, length-map, length-take}
use Rattle.std.proofs.lemmas.List.Concat.{flat_map-append}
use Rattle.priz_base.proofs.More.{take_at}
use Rattle.utopist_syntax.specs.declared.item.Part.{Part}
use Rattle.utopist_syntax.specs.declared.item.Part.TheVariants.{Input, Subtask}
use Rattle.utopist_syntax.specs.declared.path.Path.{Path}
use Rattle.concept_unfold.specs.Paths.{first_name, input_in, inputs_of, input_names}
use Rattle.std.proofs.lemmas.List.Elements.{Contains-append_left, Contains-append_cases, Contains-push}
use Rattle.priz_base.proofs.Members.{contains_here, contains_there, contains_none, contains_cases}
use Rattle.concept_unfold.specs.steps.InputPlaces.{Places, ArePlaces}
use Rattle.concept_rules.proofs.Lookup.{false_of, first_is, first_is_not}
use Rattle.concept_unfold.proofs.Places.{place_stable}

-- a name that is none of the names stands behind all of them
pub missing : (name : List ℕ) (names : List (List ℕ)) → (Contains names name → ⊥) → position_or_len (bytes_eq name) names ≡ length names
missing name [] h = refl
missing name (x ∷ xs) h =
    let other = false_of (bytes_eq name x) (λ t. h (subst (λ y. Contains (y ∷ xs) name) ((bytes_eq-Decides name x).0 t) (contains_here name xs))) in
    first_is_not x xs name other ∙ omega (arith, missing name xs (λ c. h (contains_there x xs name c)))

-- a new name stands at the end
pub place_new : (name : List ℕ) (names : List (List ℕ)) → (Contains names name → ⊥) → position_or_len (bytes_eq name) (names ++ name ∷ []) ≡ length names
place_new name [] h = first_is name [] name ((bytes_eq-Decides name name).1 refl)
place_new name (x ∷ xs) h =
    let other = false_of (bytes_eq name x) (λ t. h (subst (λ y. Contains (y ∷ xs) name) ((bytes_eq-Decides name x).0 t) (contains_here name xs))) in
    first_is_not x (xs ++ name ∷ []) name other ∙ omega (arith, place_new name xs (λ c. h (contains_there x xs name c)))

abbrev pub place : List (List ℕ) → List ℕ → ℕ
place names name = position_or_len (bytes_eq name) names

-- the places of names stay where one more name follows
stay : (ns names : List (List ℕ)) (more : List ℕ) → ((x : List ℕ) → Contains ns x → Contains names x) → map (place names) ns ≡ map (place (names ++ more ∷ [])) ns
stay [] names more h = refl
stay (n ∷ ns) names more h =
    ap (λ k. k ∷ map (place names) ns) (sym (place_stable names (more ∷ []) n (h n (contains_here n ns))))
    ∙ ap (λ ks. place (names ++ more ∷ []) n ∷ ks) (stay ns names more (λ x c. h x (contains_there n ns x c)))

-- the only name of a list of one
only : (name x : List ℕ) → Contains (name ∷ []) x → name ≡ x
only name x c = ⊎_elim (λ e. e) (λ h. absurd (contains_none x h)) (contains_cases name [] x c)

-- a name that was there already
pub places_kept : (p : Places) (names : List (List ℕ)) (name : List ℕ) → ArePlaces p names → Contains p.names name → ArePlaces (record p { count = p.count + 1 }) (names ++ name ∷ [])
places_kept p names name a c = record {
  same = λ x. (
    λ h. Contains-append_left names (name ∷ []) x ((a.same x).0 h),
    λ h. ⊎_elim (λ k. (a.same x).1 k) (λ k. subst (Contains p.names) (only name x k) c) (Contains-append_cases names (name ∷ []) x h),
  );
  first = a.first ∙ stay p.names names name (λ x. (a.same x).0);
  count = omega (arith, a.count, length-append names (name ∷ []));
}

-- a name that was not there
pub places_added : (p : Places) (names : List (List ℕ)) (name : List ℕ) → ArePlaces p names → (Contains p.names name → ⊥) → ArePlaces (record { names = p.names ++ name ∷ []; firsts = p.firsts ++ p.count ∷ []; count = p.count + 1 }) (names ++ name ∷ [])
places_added p names name a new = record {
  same = λ x. (
    λ h. ⊎_elim (λ k. Contains-append_left names (name ∷ []) x ((a.same x).0 k)) (λ k. subst (Contains (names ++ name ∷ [])) (only name x k) (Contains-push names name)) (Contains-append_cases p.names (name ∷ []) x h),
    λ h. ⊎_elim (λ k. Contains-append_left p.names (name ∷ []) x ((a.same x).1 k)) (λ k. subst (Contains (p.names ++ name ∷ [])) (only name x k) (Contains-push p.names name)) (Contains-append_cases names (name ∷ []) x h),
  );
  first = ap (λ ks. ks ++ p.count ∷ []) (a.first ∙ stay p.names names name (λ x. (a.same x).0))
      ∙ ap (λ k. map (place (names ++ name ∷ [])) p.names ++ k ∷ []) (a.count ∙ sym (place_new name names (λ c. new ((a.same name).1 c))))
      ∙ sym (map-append (place (names ++ name ∷ [])) p.names (name ∷ []));
  count = omega (arith, a.count, length-append names (name ∷ []));
}

few_in : (p : Part) → length (input_in p) ≤ 1
few_in (Input p) = omega arith
few_in (Subtask inputs outputs) = omega arith

few_of : (parts : List Part) → length (inputs_of parts) ≤ length parts
few_of [] = omega arith
few_of (p ∷ ps) = omega (arith, length-append (input_in p) (inputs_of ps), few_in p, few_of ps)

-- so many parts have no more inputs
pub few_inputs : (parts : List Part) (i : ℕ) → length (input_names (take i parts)) ≤ i
few_inputs parts i = omega (arith, length-map (inputs_of (take i parts)) (λ (p : Path). (first_name p).text), few_of (take i parts), length-take i parts)

names_append : (xs ys : List Part) → input_names (xs ++ ys) ≡ input_names xs ++ input_names ys
names_append xs ys = ap (map (λ (p : Path). (first_name p).text)) (flat_map-append input_in xs ys) ∙ map-append (λ (p : Path). (first_name p).text) (inputs_of xs) (inputs_of ys)

-- the inputs up to the next part
pub inputs_more : (parts : List Part) (i : ℕ) (x : Part) → i < length parts → x ≡ get_or parts i x → input_names (take (i + 1) parts) ≡ input_names (take i parts) ++ input_names (x ∷ [])
inputs_more parts i x lt is = ap input_names (take_at parts i x lt is) ∙ names_append (take i parts) (x ∷ [])
