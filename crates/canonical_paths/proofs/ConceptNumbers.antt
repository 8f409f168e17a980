-- Concepts of a file that keeps the rules, by their numbers.
use Rattle.std.proofs.Common.{◌≡◌, ℕ, zero, suc, ◌+◌, ◌<◌, Bool, true, false, ◌||◌, List, [], ◌∷◌, ◌++◌, Option, Some, None, Ok, map, length, refl, sym, ap, ◌∙◌, subst, ⊎_elim, append_assoc, arith}
use Rattle.std.specs.Prelude.{if◌then◌else◌, reverse, slice_get, option_map, Contains}
use Rattle.std.specs.Str.{bytes_eq}
use Rattle.std.specs.List.{flat_map}
use Rattle.std.proofs.lemmas.Bool.{both_ways, or_left, or_right}
use Rattle.std.proofs.lemmas.List.{reverse-append}
use Rattle.std.proofs.lemmas.List.Elements.{Contains-append_left, Contains-append_right, Contains-append_cases}
use Rattle.std.proofs.lemmas.Option.{slice_get_within, slice_get-map, same_Some, none-some}
use Rattle.std.proofs.lemmas.Slice.Eq.{bytes_eq-Decides}
use Rattle.priz_base.proofs.Members.{contains_here, contains_cases, contains_none}
use Rattle.name_sets.proofs.Spelt.{member_at}
use Rattle.utopist_syntax.specs.FileTree.{ItemTree, ConceptTree}
use Rattle.concept_rules.specs.Declarations.{is_among}
use Rattle.concept_rules.specs.Lineage.{concept_names, lineage, all_items, effective_items, ancestors}
use Rattle.concept_rules.specs.ConceptRules.{concepts_fault}
use Rattle.canonical_paths.specs.PathNames.{PathNames}
use Rattle.canonical_paths.specs.Canonical.{items_behind, canonical_behind, canonical_path}
use Rattle.canonical_paths.specs.DeclaredPaths.{item_paths, declared_paths}
use Rattle.canonical_paths.specs.Scoped.{ConceptsAreScoped}
use Rattle.canonical_paths.specs.Components.{effective_in, declared_in, canonical_in, IsNamed}
use Rattle.canonical_paths.specs.steps.Fitting.{ConceptsFit, AreNamedOnce, AreSound}
use Rattle.canonical_paths.specs.steps.Ready.{StandsBelow, StandOnce}
use Rattle.canonical_paths.proofs.Elements.{get_left}
use Rattle.canonical_paths.proofs.CheckedConcepts.{has_name, named_among, kept_are_scoped}
use Rattle.canonical_paths.proofs.FittingConcepts.{AreFitted, is_other, kept_are_fitted}
use Rattle.canonical_paths.proofs.FindingPaths.{place_of}

-- a list around the element of a number
pub record Standing {X : Type 0} (xs : List X) (n : ℕ) (x : X) : Type 0 where
  pub before : List X
  pub rest : List X
  pub is : xs ≡ before ++ x ∷ rest
  pub number : length before ≡ n

pub standing : {X : Type 0} (xs : List X) (n : ℕ) (x : X) → slice_get xs n ≡ Some x → Standing xs n x
standing [] n x h = absurd (none-some x h)
standing {X} (y ∷ xs) zero x h = record { before = []; rest = xs; is = ap (λ (z : X). z ∷ xs) (same_Some y x h); number = refl }
standing {X} (y ∷ xs) (suc n) x h =
    let s = standing xs n x h in
    record { before = y ∷ s.before; rest = s.rest; is = ap (λ (zs : List X). y ∷ zs) s.is; number = omega (arith, s.number) }

-- an element of the first ones stands there in all
pub stands_in_all : {X : Type 0} (xs : List X) (n : ℕ) (x : X) (s : Standing xs n x) (m : ℕ) (y : X) → slice_get s.before m ≡ Some y → (slice_get xs m ≡ Some y) × (m < n)
stands_in_all {X} xs n x s m y h =
    let w = slice_get_within s.before m y h in
    (subst (λ (zs : List X). slice_get zs m ≡ Some y) (sym s.is) (get_left s.before (x ∷ s.rest) m y h), omega (arith, w, s.number))

-- and one of a smaller number is among the first ones
pub stands_before : {X : Type 0} (xs : List X) (n : ℕ) (x : X) (s : Standing xs n x) (m : ℕ) (y : X) → slice_get xs m ≡ Some y → m < n → slice_get s.before m ≡ Some y
stands_before {X} xs n x s m y h less = by s.before m (subst (λ (zs : List X). slice_get zs m ≡ Some y) s.is h) (omega (arith, less, s.number))
  where
    by : (before : List X) (k : ℕ) → slice_get (before ++ x ∷ s.rest) k ≡ Some y → k < length before → slice_get before k ≡ Some y
    by [] k g w = absurd (omega (arith, w))
    by (z ∷ before) zero g w = g
    by (z ∷ before) (suc k) g w = by before k g (omega (arith, w))

pub turned_around : {X : Type 0} (xs : List X) (n : ℕ) (x : X) (s : Standing xs n x) → reverse xs ≡ reverse s.rest ++ x ∷ reverse s.before
turned_around {X} xs n x s =
    ap reverse s.is ∙ reverse-append s.before (x ∷ s.rest) ∙ ap (λ (zs : List X). zs ++ reverse s.before) (reverse-append (x ∷ []) s.rest)
    ∙ append_assoc (reverse s.rest) (x ∷ []) (reverse s.before)

pub reverse_has : {X : Type 0} (xs : List X) (x : X) → Contains xs x → Contains (reverse xs) x
reverse_has [] x h = absurd (contains_none x h)
reverse_has {X} (y ∷ xs) x h =
    let e : reverse (y ∷ xs) ≡ reverse xs ++ y ∷ [] = reverse-append (y ∷ []) xs in
    subst (λ (zs : List X). Contains zs x) (sym e)
    (⊎_elim
    (λ f. Contains-append_right (reverse xs) (y ∷ []) x (subst (Contains (y ∷ [])) f (contains_here y [])))
    (λ k. Contains-append_left (reverse xs) (y ∷ []) x (reverse_has xs x k))
    (contains_cases y xs x h))

pub had_by_reverse : {X : Type 0} (xs : List X) (x : X) → Contains (reverse xs) x → Contains xs x
had_by_reverse [] x h = h
had_by_reverse {X} (y ∷ xs) x h =
    let e : reverse (y ∷ xs) ≡ reverse xs ++ y ∷ [] = reverse-append (y ∷ []) xs in
    ⊎_elim
    (λ k. Contains-append_right (y ∷ []) xs x (had_by_reverse xs x k))
    (λ k. Contains-append_left (y ∷ []) xs x k)
    (Contains-append_cases (reverse xs) (y ∷ []) x (subst (λ (zs : List X). Contains zs x) e h))

among_behind : (later earlier : List ConceptTree) (name : List ℕ) → is_among name (concept_names earlier) ≡ true → is_among name (concept_names (later ++ earlier)) ≡ true
among_behind [] earlier name h = h
among_behind (d ∷ later) earlier name h = or_right (bytes_eq name d.name.text) (is_among name (concept_names (later ++ earlier))) (among_behind later earlier name h)

-- what later concepts have no part in
past : {X : Type 0} (f : List ConceptTree → List ℕ → X) → ((d : ConceptTree) (cs : List ConceptTree) (name : List ℕ) → bytes_eq d.name.text name ≡ false → f (d ∷ cs) name ≡ f cs name) → (later earlier : List ConceptTree) (name : List ℕ) → AreNamedOnce (later ++ earlier) → is_among name (concept_names earlier) ≡ true → f (later ++ earlier) name ≡ f earlier name
past f step [] earlier name once h = refl
past f step (d ∷ later) earlier name once h =
    step d (later ++ earlier) name (is_other d (later ++ earlier) once.0 name (among_behind later earlier name h))
    ∙ past f step later earlier name once.1 h

items_past : (later earlier : List ConceptTree) (name : List ℕ) → AreNamedOnce (later ++ earlier) → is_among name (concept_names earlier) ≡ true → effective_items (later ++ earlier) name ≡ effective_items earlier name
items_past later earlier name once h =
    ap all_items (past lineage (λ d cs n e. ap (λ (t : Bool). if t then ancestors cs d.parents ++ d ∷ [] else lineage cs n) e) later earlier name once h)

paths_past : (later earlier : List ConceptTree) (name : List ℕ) → AreNamedOnce (later ++ earlier) → is_among name (concept_names earlier) ≡ true → declared_paths (later ++ earlier) name ≡ declared_paths earlier name
paths_past =
    past declared_paths
    (λ d cs n e. ap (λ (t : Bool). if t then flat_map (item_paths (declared_paths cs)) (items_behind cs d) else declared_paths cs n) e)

canonical_past : (p : PathNames) (later earlier : List ConceptTree) (name : List ℕ) → AreNamedOnce (later ++ earlier) → is_among name (concept_names earlier) ≡ true → canonical_path (later ++ earlier) name p ≡ canonical_path earlier name p
canonical_past p =
    past (λ cs n. canonical_path cs n p)
    (λ d cs n e. ap (λ (t : Bool). if t then canonical_behind (canonical_path cs) (reverse (items_behind cs d)) p else canonical_path cs n p) e)

once_behind : (later earlier : List ConceptTree) → AreNamedOnce (later ++ earlier) → AreNamedOnce earlier
once_behind [] earlier h = h
once_behind (d ∷ later) earlier h = once_behind later earlier h.1

fit_behind : (later earlier : List ConceptTree) → ConceptsFit (later ++ earlier) → ConceptsFit earlier
fit_behind [] earlier h = h
fit_behind (d ∷ later) earlier h = fit_behind later earlier h.1

scoped_behind : (later earlier : List ConceptTree) → ConceptsAreScoped (later ++ earlier) → ConceptsAreScoped earlier
scoped_behind [] earlier h = h
scoped_behind (d ∷ later) earlier h = scoped_behind later earlier h.1

-- names by numbers
pub name_at : (all : List ConceptTree) (n : ℕ) (c : ConceptTree) → slice_get all n ≡ Some c → slice_get (concept_names all) n ≡ Some c.name.text
name_at all n c h = slice_get-map (λ (d : ConceptTree). d.name.text) all n ∙ ap (option_map (λ (d : ConceptTree). d.name.text)) h

pub is_named : (all : List ConceptTree) (n : ℕ) (name : List ℕ) → slice_get (concept_names all) n ≡ Some name → IsNamed all n name
is_named all n name h = by (slice_get all n) refl (sym (slice_get-map (λ (d : ConceptTree). d.name.text) all n) ∙ h)
  where
    by : (o : Option ConceptTree) → slice_get all n ≡ o → option_map (λ (d : ConceptTree). d.name.text) o ≡ Some name → IsNamed all n name
    by None e f = absurd (cc)
    by (Some d) e f = record { concept = d; is = e; named = same_Some d.name.text name f }

pub names_number : (all : List ConceptTree) (n : ℕ) (name : List ℕ) → IsNamed all n name → slice_get (concept_names all) n ≡ Some name
names_number all n name h = name_at all n h.concept h.is ∙ ap (λ (m : List ℕ). Some m) h.named

module _ (all : List ConceptTree) (kept : concepts_fault [] all ≡ Ok tt) where
  pub fitted : AreFitted (reverse all)
  fitted = kept_are_fitted all kept

  module _ (n : ℕ) (c : ConceptTree) (s : Standing all n c) where
    abbrev pub earlier : List ConceptTree
    earlier = reverse s.before

    turn : reverse all ≡ reverse s.rest ++ c ∷ reverse s.before
    turn = turned_around all n c s

    once : AreNamedOnce (reverse s.rest ++ c ∷ reverse s.before)
    once = subst AreNamedOnce turn fitted.sound.once

    fit : ConceptsFit (c ∷ reverse s.before)
    fit = fit_behind (reverse s.rest) (c ∷ reverse s.before) (subst ConceptsFit turn fitted.sound.fit)

    pub once_here : AreNamedOnce (c ∷ reverse s.before)
    once_here = once_behind (reverse s.rest) (c ∷ reverse s.before) once

    pub sound_here : AreSound (c ∷ reverse s.before)
    sound_here = record { once = once_here; fit = fit }

    pub sound_earlier : AreSound (reverse s.before)
    sound_earlier = record { once = once_here.1; fit = fit.1 }

    pub scoped_here : ConceptsAreScoped (c ∷ reverse s.before)
    scoped_here = scoped_behind (reverse s.rest) (c ∷ reverse s.before) (subst ConceptsAreScoped turn (kept_are_scoped all kept))

    own_among : is_among c.name.text (concept_names (c ∷ reverse s.before)) ≡ true
    own_among = or_left (bytes_eq c.name.text c.name.text) (is_among c.name.text (concept_names (reverse s.before))) ((bytes_eq-Decides c.name.text c.name.text).1 refl)

    -- what the concept has, among all and among those up to it
    pub items_here : effective_in all c ≡ items_behind (reverse s.before) c
    items_here = ap (λ (cs : List ConceptTree). effective_items cs c.name.text) turn ∙ items_past (reverse s.rest) (c ∷ reverse s.before) c.name.text once own_among

    pub paths_here : declared_in all c ≡ declared_paths (c ∷ reverse s.before) c.name.text
    paths_here = ap (λ (cs : List ConceptTree). declared_paths cs c.name.text) turn ∙ paths_past (reverse s.rest) (c ∷ reverse s.before) c.name.text once own_among

    pub canonical_here : (p : PathNames) → canonical_in all c p ≡ canonical_path (c ∷ reverse s.before) c.name.text p
    canonical_here p = ap (λ (cs : List ConceptTree). canonical_path cs c.name.text p) turn ∙ canonical_past p (reverse s.rest) (c ∷ reverse s.before) c.name.text once own_among

    -- an earlier name
    pub stands_earlier : (name : List ℕ) → is_among name (concept_names (reverse s.before)) ≡ true → StandsBelow (concept_names all) n name
    stands_earlier name h =
        let r = has_name (reverse s.before) name h in
        let p = place_of s.before r.concept (had_by_reverse s.before r.concept r.there) in
        let a = stands_in_all all n c s p.0 r.concept p.1 in
        record { number = p.0; is = name_at all p.0 r.concept a.0 ∙ ap (λ (m : List ℕ). Some m) (sym r.same); below = a.1 }

    pub among_earlier : (m : ℕ) (d : ConceptTree) → slice_get all m ≡ Some d → m < n → is_among d.name.text (concept_names (reverse s.before)) ≡ true
    among_earlier m d h less = named_among (reverse s.before) d (reverse_has s.before d (member_at s.before m d (stands_before all n c s m d h less)))

    module _ (d : ConceptTree) (among : is_among d.name.text (concept_names (reverse s.before)) ≡ true) where
      wide : reverse all ≡ (reverse s.rest ++ c ∷ []) ++ reverse s.before
      wide = turn ∙ sym (append_assoc (reverse s.rest) (c ∷ []) (reverse s.before))

      once_wide : AreNamedOnce ((reverse s.rest ++ c ∷ []) ++ reverse s.before)
      once_wide = subst AreNamedOnce wide fitted.sound.once

      pub items_earlier : effective_in all d ≡ effective_items (reverse s.before) d.name.text
      items_earlier = ap (λ (cs : List ConceptTree). effective_items cs d.name.text) wide ∙ items_past (reverse s.rest ++ c ∷ []) (reverse s.before) d.name.text once_wide among

      pub paths_earlier : declared_in all d ≡ declared_paths (reverse s.before) d.name.text
      paths_earlier = ap (λ (cs : List ConceptTree). declared_paths cs d.name.text) wide ∙ paths_past (reverse s.rest ++ c ∷ []) (reverse s.before) d.name.text once_wide among

      pub canonical_earlier : (p : PathNames) → canonical_in all d p ≡ canonical_path (reverse s.before) d.name.text p
      canonical_earlier p = ap (λ (cs : List ConceptTree). canonical_path cs d.name.text p) wide ∙ canonical_past p (reverse s.rest ++ c ∷ []) (reverse s.before) d.name.text once_wide among

  not_earlier : (n m : ℕ) (c d : ConceptTree) → slice_get all n ≡ Some c → slice_get all m ≡ Some d → c.name.text ≡ d.name.text → n < m → ⊥
  not_earlier n m c d hn hm same less =
      let s = standing all m d hm in
      both_ways (is_among d.name.text (concept_names (reverse s.before))) (once_here m d s).0
      (subst (λ (x : List ℕ). is_among x (concept_names (reverse s.before)) ≡ true) same (among_earlier m d s n c hn less))

  -- no name stands twice
  pub names_stand_once : StandOnce (concept_names all)
  names_stand_once name n m hn hm = by (is_named all n name hn) (is_named all m name hm)
    where
      by : IsNamed all n name → IsNamed all m name → n ≡ m
      by a b =
          let e = a.named ∙ sym b.named in
          let x : n < m → ⊥ = not_earlier n m a.concept b.concept a.is b.is e in
          let y : m < n → ⊥ = not_earlier m n b.concept a.concept b.is a.is (sym e) in
          omega (arith, x, y)
