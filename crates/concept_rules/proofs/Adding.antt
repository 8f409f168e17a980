-- The index after one more declaration.
use Rattle.std.proofs.Common.{◌≡◌, ◌≢◌, ◌⊎◌, ℕ, zero, suc, ◌+◌, ◌<◌, Bool, true, false, ◌&&◌, List, [], ◌∷◌, ◌++◌, length, get_or, set, map, find, nat_eq, Option, Some, None, refl, sym, ap, ◌∙◌, subst, ⊎_elim, AllPairs, arith}
use Rattle.std.specs.Prelude.{Contains, slice_get, option_map, unwrap_or, if◌then◌else◌}
use Rattle.std.specs.Option.{option_or}
use Rattle.std.specs.Str.{bytes_eq}
use Rattle.std.specs.List.{position_or_len}
use Rattle.std.proofs.lemmas.List.{get_or-set_same, length-set, length-append, get_or_append_left, get_or_push, get_or_default}
use Rattle.std.proofs.lemmas.List.Elements.{Contains-push_cases}
use Rattle.std.proofs.lemmas.List.Folds.{find-append}
use Rattle.std.proofs.lemmas.Option.{slice_get-map, slice_get-get_or}
use Rattle.std.proofs.lemmas.Slice.Eq.{bytes_eq-Decides}
use Rattle.concept_rules.specs.declared.declarations.Declaration.{Declaration}
use Rattle.concept_rules.specs.steps.DeclaredNames.{Declared, items_declaring, item_in, AddsName}
use Rattle.concept_rules.proofs.Lookup.{first_is, first_is_not, declaring_at, none_declaring}
use Rattle.concept_rules.specs.Declarations.{is_among}
use Rattle.concept_rules.proofs.Among.{among, listed}
use Rattle.concept_rules.proofs.Growing.{nat_eq_true}
use Rattle.concept_rules.proofs.WholeConcept.{push_left, push_at, less_or_same}
use Rattle.priz_base.proofs.More.{some_below}

there_step :
    (x : List ℕ) (xs : List (List ℕ)) (text name : List ℕ) (b : Bool) → bytes_eq text x ≡ b
    → (slice_get xs (position_or_len (bytes_eq text) xs) ≡ Some name → bytes_eq text name ≡ true)
    → slice_get (x ∷ xs) (position_or_len (bytes_eq text) (x ∷ xs)) ≡ Some name
    → bytes_eq text name ≡ true
there_step x xs text name true e rest h =
    let at : slice_get (x ∷ xs) 0 ≡ Some name = rw (first_is x xs text e) at h in
    let same : x ≡ name = cc in
    subst (λ y. bytes_eq text y ≡ true) same e
there_step x xs text name false e rest h =
    let step = first_is_not x xs text e in
    let one_on : position_or_len (bytes_eq text) (x ∷ xs) ≡ suc (position_or_len (bytes_eq text) xs) = omega (arith, step) in
    let at : slice_get (x ∷ xs) (suc (position_or_len (bytes_eq text) xs)) ≡ Some name = subst (λ k. slice_get (x ∷ xs) k ≡ Some name) one_on h in
    rest at

-- a name at the place that was found for it
pub found_there :
    (names : List (List ℕ)) (text name : List ℕ)
    → slice_get names (position_or_len (bytes_eq text) names) ≡ Some name
    → bytes_eq text name ≡ true
found_there [] text name h = absurd (cc)
found_there (x ∷ xs) text name h =
    there_step x xs text name (bytes_eq text x) refl (found_there xs text name) h

-- what a further declaration of a name adds to those that were there
pub pick_first :
    (d : Declaration) (ds : List Declaration) (n : ℕ) (b : Bool) → nat_eq d.concept n ≡ b
    → (b ≡ true → find (λ (e : Declaration). nat_eq e.concept n) ds ≡ None)
    → option_map (λ (e : Declaration). e.item) (find (λ e. nat_eq e.concept n) (ds ++ d ∷ []))
    ≡ (if nat_eq d.concept n then Some d.item else option_map (λ (e : Declaration). e.item) (find (λ e. nat_eq e.concept n) ds))
pick_first d ds n true e none = rw (find-append (λ (e : Declaration). nat_eq e.concept n) ds (d ∷ []), none refl, e) refl
pick_first d ds n false e none = rw (find-append (λ (e : Declaration). nat_eq e.concept n) ds (d ∷ []), e) (ap (option_map (λ (e : Declaration). e.item)) (or_none (find (λ (e : Declaration). nat_eq e.concept n) ds)))
  where
    or_none : (o : Option Declaration) → option_or o None ≡ o
    or_none None = refl
    or_none (Some x) = refl

set_other :
    {X : Type 0} (xs : List X) (i j : ℕ) (a : X) → (j ≡ i → ⊥)
    → slice_get (set xs i a) j ≡ slice_get xs j
set_other [] i j a h = refl
set_other (x ∷ xs) zero zero a h = absurd (h refl)
set_other (x ∷ xs) zero (suc j) a h = refl
set_other (x ∷ xs) (suc i) zero a h = refl
set_other (x ∷ xs) (suc i) (suc j) a h = set_other xs i j a (λ e. h (ap suc e))

none_found : (o : Option Declaration) → option_map (λ (e : Declaration). e.item) o ≡ None → o ≡ None
none_found None h = refl
none_found (Some x) h = absurd (cc)

module _ (old new : Declared) (name : List ℕ) (d : Declaration) (ds : List Declaration)
    (before : items_declaring old name ≡ ds) (after : items_declaring new name ≡ ds ++ d ∷ [])
    (others : (text : List ℕ) → bytes_eq text name ≡ false → items_declaring new text ≡ items_declaring old text)
  where
    at_name :
        (n : ℕ) → item_in old name d.concept ≡ None
        → item_in new name n ≡ (if nat_eq d.concept n then Some d.item else item_in old name n)
    at_name n none =
        let empty : (nat_eq d.concept n ≡ true) → find (λ (e : Declaration). nat_eq e.concept n) ds ≡ None = λ t.
        let same = nat_eq_true d.concept n t in
        none_found (find (λ (e : Declaration). nat_eq e.concept n) ds) (ap (λ (xs : List Declaration). option_map (λ (e : Declaration). e.item) (find (λ e. nat_eq e.concept n) xs)) (sym before) ∙ subst (λ k. item_in old name k ≡ None) same none) in
        ap (λ (xs : List Declaration). option_map (λ (e : Declaration). e.item) (find (λ e. nat_eq e.concept n) xs)) after
        ∙ pick_first d ds n (nat_eq d.concept n) refl empty
        ∙ ap (λ (xs : List Declaration). if nat_eq d.concept n then Some d.item else option_map (λ (e : Declaration). e.item) (find (λ e. nat_eq e.concept n) xs)) (sym before)

    adds_case :
        (text : List ℕ) (n : ℕ) (b : Bool) → bytes_eq text name ≡ b
        → item_in old name d.concept ≡ None → item_in new text n
        ≡ (if bytes_eq text name && nat_eq d.concept n then Some d.item else item_in old text n)
    adds_case text n true e none =
        let same : text ≡ name = (bytes_eq-Decides text name).0 e in
        let here = subst (λ t. item_in new t n ≡ (if nat_eq d.concept n then Some d.item else item_in old t n)) (sym same) (at_name n none) in
        here ∙ ap (λ b. if b && nat_eq d.concept n then Some d.item else item_in old text n) (sym e)
    adds_case text n false e none =
        ap (λ (xs : List Declaration). option_map (λ (e : Declaration). e.item) (find (λ e. nat_eq e.concept n) xs)) (others text e)
        ∙ ap (λ b. if b && nat_eq d.concept n then Some d.item else item_in old text n) (sym e)

    pub adds : AddsName old new name d
    adds = λ none text n. adds_case text n (bytes_eq text name) refl none

module _ {V : Type 0} (h : V → List Declaration) (bound : List (Declaration × List (List (List ℕ))))
    (names : List (List ℕ)) (vs : List V) (name : List ℕ) (d : Declaration)
    (once : AllPairs (λ a b. a ≢ b) names) (same : length names ≡ length vs) where
  -- a name that is there
  pub adds_known :
      (place : ℕ) (v w : V) → slice_get names place ≡ Some name → v ≡ get_or vs place v
      → h w ≡ h v ++ d ∷ []
      → AddsName (record { names = names; items = map h vs; bound = bound }) (record { names = names; items = map h (set vs place w); bound = bound }) name d
  adds_known place v w there is more =
      let long : length names ≡ length (set vs place w) = same ∙ sym (length-set vs place w) in
      let below = some_below names place name there in
      let inside : place < length vs = omega (arith, same, below) in
      adds (record { names = names; items = map h vs; bound = bound }) (record { names = names; items = map h (set vs place w); bound = bound }) name d (h v)
      (declaring_at h bound names vs name same place v once there is)
      (declaring_at h bound names (set vs place w) name long place w once there (sym (get_or-set_same vs place w w inside)) ∙ more)
      (λ text e.
      let k = position_or_len (bytes_eq text) names in
      let other : k ≡ place → ⊥ = λ s. let t = found_there names text name (subst (λ j. slice_get names j ≡ Some name) (sym s) there) in absurd (cc) in
      ap (λ (o : Option (List Declaration)). unwrap_or o []) (slice_get-map h (set vs place w) k ∙ ap (option_map h) (set_other vs place k w other) ∙ sym (slice_get-map h vs k)))

push_last :
    (names : List (List ℕ)) (name : List ℕ) → AllPairs (λ a b. a ≢ b) names → ¬ Contains names name
    → (i j : ℕ) (t : List ℕ) → i < j → i < length names
    → get_or (names ++ name ∷ []) i t ≡ get_or names i t
    → (j < length names) ⊎ ((j ≡ length names) ⊎ (length names < j)) → j < length names + 1
    → get_or (names ++ name ∷ []) i t ≢ get_or (names ++ name ∷ []) j t
push_last names name once none i j t l low left w m = λ e.
    ⊎_elim
    (λ h. once i j t l h (sym left ∙ e ∙ get_or_append_left names (name ∷ []) t j h))
    (λ h. ⊎_elim
    (λ s. none (i, low, get_or_default names i name t low ∙ sym left ∙ e ∙ get_or_push names name t j (sym s)))
    (λ g. absurd (omega (arith, g, m)))
    h)
    w

-- one more name, which is none of them
pub once_push :
    (names : List (List ℕ)) (name : List ℕ) → AllPairs (λ a b. a ≢ b) names → ¬ Contains names name
    → AllPairs (λ a b. a ≢ b) (names ++ name ∷ [])
once_push names name once none i j t l m =
    let long = length-append names (name ∷ []) in
    let low : i < length names = omega (arith, long, l, m) in
    let left = get_or_append_left names (name ∷ []) t i low in
    push_last names name once none i j t l low left (less_or_same j (length names)) (omega (arith, long, m))

module _ {V : Type 0} (h : V → List Declaration) (bound : List (Declaration × List (List (List ℕ))))
    (names : List (List ℕ)) (vs : List V) (name : List ℕ) (d : Declaration)
    (once : AllPairs (λ a b. a ≢ b) names) (same : length names ≡ length vs)
    (none : ¬ Contains names name) (w : V) (alone : h w ≡ d ∷ []) where
  long : length (names ++ name ∷ []) ≡ length (vs ++ w ∷ [])
  long = let a = length-append names (name ∷ []) in let b = length-append vs (w ∷ []) in omega (arith, a, b, same)

  other_case :
      (text : List ℕ) (b : Bool) → is_among text names ≡ b → bytes_eq text name ≡ false
      → items_declaring (record { names = names ++ name ∷ []; items = map h (vs ++ w ∷ []); bound = bound }) text
      ≡ items_declaring (record { names = names; items = map h vs; bound = bound }) text
  other_case text true e differ =
      let c = listed text names e in
      let there : slice_get names c.0 ≡ Some text = slice_get-get_or names c.0 text c.1 ∙ ap Some c.2 in
      let below = c.1 in
      let inside : c.0 < length vs = omega (arith, same, below) in
      let v = get_or vs c.0 w in
      let is : v ≡ get_or vs c.0 v = get_or_default vs c.0 w v inside in
      declaring_at h bound (names ++ name ∷ []) (vs ++ w ∷ []) text long c.0 v (once_push names name once none) (push_left names name c.0 c.1 ∙ there) (is ∙ sym (get_or_append_left vs (w ∷ []) v c.0 inside))
      ∙ sym (declaring_at h bound names vs text same c.0 v once there is)
  other_case text false e differ =
      let out : ¬ Contains names text = λ c. let t = among text names c in absurd (cc) in
      let out_more : ¬ Contains (names ++ name ∷ []) text = λ c. ⊎_elim out (λ s. let t = (bytes_eq-Decides text name).1 (sym s) in absurd (cc)) (Contains-push_cases names name text c) in
      none_declaring h bound (names ++ name ∷ []) (vs ++ w ∷ []) text long out_more
      ∙ sym (none_declaring h bound names vs text same out)

  -- a name that isn't there yet
  pub adds_new :
      AddsName (record { names = names; items = map h vs; bound = bound }) (record { names = names ++ name ∷ []; items = map h (vs ++ w ∷ []); bound = bound }) name d
  adds_new =
      adds (record { names = names; items = map h vs; bound = bound }) (record { names = names ++ name ∷ []; items = map h (vs ++ w ∷ []); bound = bound }) name d []
      (none_declaring h bound names vs name same none)
      (declaring_at h bound (names ++ name ∷ []) (vs ++ w ∷ []) name long (length names) w (once_push names name once none) (push_at names name) (sym (get_or_push vs w w (length names) (sym same))) ∙ alone)
      (λ text e. other_case text (is_among text names) refl e)
