-- A path that is declared is found.
use Rattle.std.proofs.Common.{◌≡◌, ◌^◌, ℕ, zero, suc, ◌+◌, ◌-◌, ◌<◌, List, [], ◌∷◌, true, false, Option, Some, None, length, take, drop, get_or, refl, sym, ap, ◌∙◌, subst, ⊎_elim, arith}
use Rattle.std.specs.Prelude.{slice_get, unwrap_or, Contains, IsSome, ◌&&◌}
use Rattle.std.proofs.lemmas.Bool.{both_ways}
use Rattle.std.proofs.lemmas.Option.{slice_get_within, same_Some, none-some}
use Rattle.std.proofs.lemmas.Slice.Eq.{bytes_eq-Decides}
use Rattle.priz_base.proofs.Members.{contains_cases, contains_none}
use Rattle.utopist_syntax.specs.Named.{Named}
use Rattle.name_sets.specs.Paths.{texts, is_prefix}
use Rattle.name_sets.proofs.Spelt.{member_at}
use Rattle.canonical_paths.specs.declared.slot.Slot.{Slot}
use Rattle.canonical_paths.specs.PathNames.{PathNames}
use Rattle.canonical_paths.specs.LaidOut.{LaidOut}
use Rattle.canonical_paths.specs.steps.Layouts.{HasSlot, inner_paths}
use Rattle.canonical_paths.specs.steps.PathLists.{PathLists, HaveLayouts, IsSlotOf, IsComplete}
use Rattle.canonical_paths.proofs.Elements.{heads, tails, there}
use Rattle.canonical_paths.proofs.Stretches.{within_of}
use Rattle.canonical_paths.proofs.BlocksInside.{split_path}

pub place_of : {A : Type 0} (xs : List A) (x : A) → Contains xs x → (n : ℕ) × (slice_get xs n ≡ Some x)
place_of [] x h = absurd (contains_none x h)
place_of {A} (y ∷ xs) x h = ⊎_elim (λ e. (0, ap (λ (z : A). Some z) e)) (λ k. let r = place_of xs x k in (suc r.0, r.1)) (contains_cases y xs x h)

-- no path is empty
pub none_empty : (w : PathLists) (layouts : List LaidOut) (l : LaidOut) → HaveLayouts w layouts l → Contains w.paths [] → ⊥
none_empty w layouts l here h =
    let p = place_of w.paths [] h in
    let b = here.so_far.begin p.0 [] p.1 in
    not_cons b.first b.rest b.is
  where
    not_cons : (first : List ℕ) (rest : PathNames) → [] ≡ first ∷ rest → ⊥
    not_cons first rest e = cc

-- its first name is that of a variable
pub first_named : (w : PathLists) (layouts : List LaidOut) (l : LaidOut) → HaveLayouts w layouts l → (first : List ℕ) (rest : PathNames) → Contains w.paths (first ∷ rest) → Contains l.names first
first_named w layouts l here first rest h =
    let p = place_of w.paths (first ∷ rest) h in
    let b = here.so_far.begin p.0 (first ∷ rest) p.1 in
    subst (Contains l.names) (sym (heads first b.first rest b.rest b.is)) b.among

-- what is in a stretch behind its first
later_in : (inner : List PathNames) (k : ℕ) (e next : List ℕ) (rest p : PathNames) → next ∷ rest ≡ p → slice_get ([] ∷ inner) k ≡ Some p → Contains inner (next ∷ rest)
later_in inner zero e next rest p same h = absurd (not_empty (same ∙ sym (same_Some [] p h)))
  where
    not_empty : next ∷ rest ≡ [] → ⊥
    not_empty f = cc
later_in inner (suc k) e next rest p same h = subst (Contains inner) (sym same) (member_at inner k p h)

module _ (w : PathLists) (layouts : List LaidOut) (l : LaidOut) (here : HaveLayouts w layouts l) (first : List ℕ) (s : Slot) (slot : HasSlot l first s) where
  abbrev inner : List PathNames
  inner = inner_paths w.concepts s.concept

  -- what stands behind it is a path inside of the variable
  pub rest_inside : (next : List ℕ) (rest : PathNames) → Contains w.paths (first ∷ next ∷ rest) → Contains inner (next ∷ rest)
  rest_inside next rest h =
      let p = place_of w.paths (first ∷ next ∷ rest) h in
      let block = here.so_far.each first s slot in
      let t : is_prefix (first ∷ []) (first ∷ next ∷ rest) ≡ true = ap (λ b. b && true) ((bytes_eq-Decides first first).1 refl) in
      let g = within_of s.at p.0 (suc (length inner)) (block.only p.0 (first ∷ next ∷ rest) p.1 ∙ t) in
      let e = there ([] ∷ inner) (p.0 - s.at) (omega (arith, g.0, g.1)) in
      let i : p.0 ≡ s.at + (p.0 - s.at) = omega (arith, g.0) in
      let same : first ∷ next ∷ rest ≡ first ∷ e.0 = same_Some (first ∷ next ∷ rest) (first ∷ e.0) (sym p.1 ∙ ap (slice_get w.paths) i ∙ block.each (p.0 - s.at) e.0 e.1) in
      later_in inner (p.0 - s.at) first next rest e.0 (tails first first (next ∷ rest) e.0 same) e.1

  pub fewer_inside : s.at + length inner < length w.paths
  fewer_inside =
      let block = here.so_far.each first s slot in
      let e = there ([] ∷ inner) (length inner) (omega arith) in
      slice_get_within w.paths (s.at + length inner) _ (block.each (length inner) e.0 e.1)

  -- its number is one of 32 bits
  pub number_fits : (c : ℕ) (found : Slot) (path : PathNames) → s.concept ≡ Some c → IsSlotOf (record { concepts = w.concepts; paths = inner_paths w.concepts (Some c) }) path found → IsComplete w layouts → s.at + found.at + 1 < 2 ^ 32
  number_fits c found path e block all =
      let k = fewer_inside in
      let m = slice_get_within (inner_paths w.concepts (Some c)) (found.at + 0) _ (block.each 0 [] refl) in
      let n : length (inner_paths w.concepts (Some c)) ≡ length inner = ap (λ (o : Option ℕ). length (inner_paths w.concepts o)) (sym e) in
      omega (arith, k, m, n, all.few)

-- a type that has paths inside is a concept that there is
abbrev HasConcept : PathLists → Option ℕ → Type 0
HasConcept w concept = (c : ℕ) × ((concept ≡ Some c) × (c < length w.concepts))

pub has_concept : (w : PathLists) (concept : Option ℕ) (p : PathNames) → Contains (inner_paths w.concepts concept) p → HasConcept w concept
has_concept w None p h = absurd (contains_none p h)
has_concept w (Some c) p h = by (slice_get w.concepts c) refl h
  where
    by : (o : Option (List PathNames)) → slice_get w.concepts c ≡ o → Contains (unwrap_or o []) p → HasConcept w (Some c)
    by None e k = absurd (contains_none p k)
    by (Some paths) e k = (c, (refl, slice_get_within w.concepts c paths e))

not_some : {A : Type 0} (o : Option A) → IsSome o → o ≡ None → ⊥
not_some (Some x) h e = none-some x (sym e)
not_some None h e = both_ways false refl h

pub no_names : (path : List Named) → length path < 1 → texts path ≡ []
no_names [] h = refl
no_names (n ∷ path) h = absurd (omega arith)

-- a declared path, its first name and the rest
module _ (w : PathLists) (layouts : List LaidOut) (l : LaidOut) (here : HaveLayouts w layouts l) (path rest : List Named) (first d : Named) (some_name : 0 < length path) (first_is : first ≡ get_or path 0 d) (rest_is : rest ≡ take (length path - 1) (drop 1 path)) (declared : Contains w.paths (texts path)) where
  parts : Contains w.paths (first.text ∷ texts rest)
  parts = subst (λ (p : List Named). Contains w.paths (texts p)) (split_path path rest first d some_name first_is rest_is) declared

  pub has_slot : (name : List ℕ) (o : Option Slot) → name ≡ first.text → (length l.names ≡ length l.slots → Contains l.names name → IsSome o) → o ≡ None → ⊥
  has_slot name o e k none = not_some o (k here.so_far.count (subst (Contains l.names) (sym e) (first_named w layouts l here first.text (texts rest) parts))) none

  module _ (s : Slot) (slot : HasSlot l first.text s) (more : length rest ≡ 0 → ⊥) where
    goes_on : Contains (inner_paths w.concepts s.concept) (texts rest)
    goes_on = by rest more parts
      where
        by : (ns : List Named) → (length ns ≡ 0 → ⊥) → Contains w.paths (first.text ∷ texts ns) → Contains (inner_paths w.concepts s.concept) (texts ns)
        by [] none k = absurd (none refl)
        by (m ∷ ns) none k = rest_inside w layouts l here first.text s slot m.text (texts ns) k

    pub is_component : s.concept ≡ None → ⊥
    is_component none = let r = has_concept w s.concept (texts rest) goes_on in none-some r.0 (sym none ∙ r.1.0)

    pub has_layout : (c : ℕ) → s.concept ≡ Some c → IsComplete w layouts → slice_get layouts c ≡ None → ⊥
    has_layout c e all none =
        let r = has_concept w s.concept (texts rest) goes_on in
        let same : r.0 ≡ c = same_Some r.0 c (sym r.1.0 ∙ e) in
        let inner = there layouts c (omega (arith, r.1.1, same, all.concepts)) in
        none-some inner.0 (sym none ∙ inner.1)

    pub finds_rest : (c : ℕ) (inside : LaidOut) (o : Option Slot) → s.concept ≡ Some c → slice_get layouts c ≡ Some inside → IsComplete w layouts → ((v : PathLists) → HaveLayouts v layouts inside → IsComplete v layouts → Contains v.paths (texts rest) → IsSome o) → o ≡ None → ⊥
    finds_rest c inside o e g all known none =
        let few = fewer_inside w layouts l here first.text s slot in
        let n : length (inner_paths w.concepts (Some c)) ≡ length (inner_paths w.concepts s.concept) = ap (λ (k : Option ℕ). length (inner_paths w.concepts k)) (sym e) in
        not_some o
        (known (record { concepts = w.concepts; paths = inner_paths w.concepts (Some c) })
        (record { concepts = here.concepts; so_far = here.concepts c inside g })
        (record { concepts = all.concepts; few = omega (arith, few, n, all.few) })
        (subst (λ (k : Option ℕ). Contains (inner_paths w.concepts k) (texts rest)) e goes_on))
        none

    pub fits : (c : ℕ) (inside : LaidOut) (found : Slot) → s.concept ≡ Some c → slice_get layouts c ≡ Some inside → IsComplete w layouts → ((v : PathLists) → HaveLayouts v layouts inside → IsSlotOf v (texts rest) found) → s.at + found.at + 1 < 2 ^ 32
    fits c inside found e g all stands =
        number_fits w layouts l here first.text s slot c found (texts rest) e
        (stands (record { concepts = w.concepts; paths = inner_paths w.concepts (Some c) }) (record { concepts = here.concepts; so_far = here.concepts c inside g }))
        all
