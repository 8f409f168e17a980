-- The places of variables, and the table of them.
use Rattle.std.proofs.Common.{◌≡◌, ◌≢◌, ℕ, ◌+◌, ◌<◌, ◌≤◌, ⊎_elim, Bool, true, false, cond, List, [], ◌∷◌, ◌++◌, length, get_or, set, Option, None, Some, is_some, refl, sym, ap, ◌∙◌, subst, arith, position}
use Rattle.std.specs.Prelude.{not, ◌==◌, if◌then◌else◌}
use Rattle.std.specs.List.{filter, position_or_len}
use Rattle.std.proofs.Math.ListN.{length-append}
use Rattle.std.proofs.lemmas.Bool.{cases_eq, cases_lt, lt-ltb, le-ltb, eqb-true, eq-eqb, ne_eqb}
use Rattle.std.proofs.lemmas.List.{get_or-set_same, get_or-set_other, length-set}
use Rattle.std.proofs.lemmas.List.Elements.{All-push}
use Rattle.std.proofs.lemmas.Option.{same_Some, none-some}
use Rattle.equation_statements.specs.steps.Places.{times, with_one_more, HasPlaces}
use Rattle.equation_statements.proofs.Times.{one_if, is_other, times_cons, times_append, filter_all, few}

-- where v stands first, or how many there are
abbrev pub place_in : ℕ → List ℕ → ℕ
place_in v vs = position_or_len (λ u. u == v) vs

place_cons : (v u : ℕ) (us : List ℕ) (b : Bool) → (u == v) ≡ b → place_in v (u ∷ us) ≡ cond b 0 (1 + place_in v us)
place_cons v u us true e = rw e refl
place_cons v u us false e = rw e refl

pub place_within : (v : ℕ) (vs : List ℕ) → place_in v vs ≤ length vs
place_within v [] = omega arith
place_within v (u ∷ us) = by (place_within v us) (u == v) refl
  where
    by : place_in v us ≤ length us → (b : Bool) → (u == v) ≡ b → place_in v (u ∷ us) ≤ length (u ∷ us)
    by rest true e = omega (arith, place_cons v u us true e)
    by rest false e = omega (arith, rest, place_cons v u us false e)

-- what stands in a list has its place within
pub place_below : (v : ℕ) (vs : List ℕ) → 1 ≤ times v vs → place_in v vs < length vs
place_below v [] some = absurd (omega arith)
place_below v (u ∷ us) some = by (place_below v us) (u == v) refl
  where
    by :
        (1 ≤ times v us → place_in v us < length us) → (b : Bool) → (u == v) ≡ b
        → place_in v (u ∷ us) < length (u ∷ us)
    by rest true e = omega (arith, place_cons v u us true e)
    by rest false e =
        let none = ap one_if e in
        let there = rest (omega (arith, none, times_cons v u us, some)) in
        omega (arith, there, place_cons v u us false e)

-- and what has none there doesn't stand there
pub place_stands : (v : ℕ) (vs : List ℕ) → place_in v vs < length vs → 1 ≤ times v vs
place_stands v [] lt = absurd (omega arith)
place_stands v (u ∷ us) lt = by (place_stands v us) (u == v) refl
  where
    by :
        (place_in v us < length us → 1 ≤ times v us) → (b : Bool) → (u == v) ≡ b
        → 1 ≤ times v (u ∷ us)
    by rest true e = let one = ap one_if e in omega (arith, one, times_cons v u us)
    by rest false e =
        let there = rest (omega (arith, lt, place_cons v u us false e)) in
        omega (arith, there, times_cons v u us)

-- what is left of a place where one number is left out that stands there once at most
pub record IsPlaceWithout (v w : ℕ) (vs : List ℕ) : Type 0 where
  pub behind : place_in v vs < place_in w vs → place_in w (filter (is_other v) vs) + 1 ≡ place_in w vs
  pub before : place_in w vs ≤ place_in v vs → place_in w (filter (is_other v) vs) ≡ place_in w vs

pub place_without : (v w : ℕ) → w ≢ v → (vs : List ℕ) → times v vs ≤ 1 → IsPlaceWithout v w vs
place_without v w apart [] once = record { behind = λ lt. absurd (omega arith); before = λ le. refl }
place_without v w apart (u ∷ us) once =
    by (place_without v w apart us) (u == v) refl (u == w) refl
  where
    by :
        (times v us ≤ 1 → IsPlaceWithout v w us) → (b : Bool) → (u == v) ≡ b → (c : Bool) → (u == w) ≡ c
        → IsPlaceWithout v w (u ∷ us)
    by rest true e true d = absurd (apart (sym (eqb-true u w d) ∙ eqb-true u v e))
    by rest true e false d =
        let one = ap one_if e in
        let all = filter_all v us (omega (arith, one, once, times_cons v u us)) in
        let left : filter (is_other v) (u ∷ us) ≡ us = rw e all in
        let same = ap (place_in w) left in
        let here = place_cons v u us true e in
        let there = place_cons w u us false d in
        record { behind = λ lt. omega (arith, same, there); before = λ le. absurd (omega (arith, le, here, there)) }
    by rest false e true d =
        let left : filter (is_other v) (u ∷ us) ≡ u ∷ filter (is_other v) us = rw e refl in
        let same = ap (place_in w) left in
        let first = place_cons w u us true d in
        let still = place_cons w u (filter (is_other v) us) true d in
        record { behind = λ lt. absurd (omega (arith, lt, first)); before = λ le. omega (arith, same, first, still) }
    by rest false e false d =
        let left : filter (is_other v) (u ∷ us) ≡ u ∷ filter (is_other v) us = rw e refl in
        let same = ap (place_in w) left in
        let own = place_cons v u us false e in
        let there = place_cons w u us false d in
        let still = place_cons w u (filter (is_other v) us) false d in
        let r = rest (omega (arith, once, times_cons v u us)) in
        record {
          behind = λ lt. let h = r.behind (omega (arith, lt, own, there)) in omega (arith, h, same, there, still);
          before = λ le. let h = r.before (omega (arith, le, own, there)) in omega (arith, h, same, there, still);
        }

abbrev place_if : Bool → ℕ → Option ℕ
place_if b n = cond b (Some n) None

-- an entry of the table says the place
pub entry_is : (v : ℕ) (vs : List ℕ) (i : ℕ) → position (λ u. u == v) vs ≡ Some i → place_in v vs ≡ i
entry_is v vs i is =
    ⊎_elim
    (λ lt. same_Some _ _ (sym (ap (λ b. place_if b (place_in v vs)) (lt-ltb (place_in v vs) (length vs) lt)) ∙ is))
    (λ le. absurd (none-some i (sym (ap (λ b. place_if b (place_in v vs)) (le-ltb (place_in v vs) (length vs) le)) ∙ is)))
    (cases_lt (place_in v vs) (length vs))

pub no_entry : (v : ℕ) (vs : List ℕ) → position (λ u. u == v) vs ≡ None → place_in v vs ≡ length vs
no_entry v vs is =
    ⊎_elim
    (λ lt. absurd (none-some (place_in v vs) (sym is ∙ ap (λ b. place_if b (place_in v vs)) (lt-ltb (place_in v vs) (length vs) lt))))
    (λ le. omega (arith, le, place_within v vs))
    (cases_lt (place_in v vs) (length vs))

pub entry_below : (v : ℕ) (vs : List ℕ) (i : ℕ) → position (λ u. u == v) vs ≡ Some i → place_in v vs < length vs
entry_below v vs i is =
    ⊎_elim
    (λ lt. lt)
    (λ le. absurd (none-some i (sym (ap (λ b. place_if b (place_in v vs)) (le-ltb (place_in v vs) (length vs) le)) ∙ is)))
    (cases_lt (place_in v vs) (length vs))

-- a variable that stands there keeps its place
pub place_kept : (v : ℕ) (vs : List ℕ) (w : ℕ) → place_in v vs < length vs → place_in v (vs ++ w ∷ []) ≡ place_in v vs
place_kept v [] w lt = absurd (omega arith)
place_kept v (u ∷ us) w lt = by (place_kept v us w) (u == v) refl
  where
    by :
        (place_in v us < length us → place_in v (us ++ w ∷ []) ≡ place_in v us) → (b : Bool) → (u == v) ≡ b
        → place_in v (u ∷ (us ++ w ∷ [])) ≡ place_in v (u ∷ us)
    by rest true e = place_cons v u (us ++ w ∷ []) true e ∙ sym (place_cons v u us true e)
    by rest false e =
        let there = rest (omega (arith, lt, place_cons v u us false e)) in
        omega (arith, there, place_cons v u (us ++ w ∷ []) false e, place_cons v u us false e)

-- one that doesn't is at the end, or behind it
pub place_last :
    (v : ℕ) (vs : List ℕ) (w : ℕ) → place_in v vs ≡ length vs
    → place_in v (vs ++ w ∷ []) ≡ length vs + one_if (not (w == v))
place_last v [] w is = by (w == v) refl
  where
    by : (b : Bool) → (w == v) ≡ b → place_in v (w ∷ []) ≡ 0 + one_if (not b)
    by true e = place_cons v w [] true e
    by false e = place_cons v w [] false e
place_last v (u ∷ us) w is = by (place_last v us w) (u == v) refl
  where
    by :
        (place_in v us ≡ length us → place_in v (us ++ w ∷ []) ≡ length us + one_if (not (w == v)))
        → (b : Bool) → (u == v) ≡ b
        → place_in v (u ∷ (us ++ w ∷ [])) ≡ length (u ∷ us) + one_if (not (w == v))
    by rest true e = absurd (omega (arith, is, place_cons v u us true e))
    by rest false e =
        let there = rest (omega (arith, is, place_cons v u us false e)) in
        omega (arith, there, place_cons v u (us ++ w ∷ []) false e)

entry_new :
    (w : ℕ) (vs : List ℕ) → position (λ u. u == w) vs ≡ None
    → position (λ u. u == w) (vs ++ w ∷ []) ≡ Some (length vs)
entry_new w vs none =
    let own = ap (λ b. one_if (not b)) (eq-eqb w w refl) in
    let at : place_in w (vs ++ w ∷ []) ≡ length vs = omega (arith, own, place_last w vs w (no_entry w vs none)) in
    let within : place_in w (vs ++ w ∷ []) < length (vs ++ w ∷ []) = omega (arith, at, length-append vs (w ∷ [])) in
    ap (λ b. place_if b (place_in w (vs ++ w ∷ []))) (lt-ltb _ _ within) ∙ ap Some at

entry_other :
    (v w : ℕ) (vs : List ℕ) → v ≢ w → position (λ u. u == v) (vs ++ w ∷ []) ≡ position (λ u. u == v) vs
entry_other v w vs apart =
    ⊎_elim
    (λ lt.
    let kept = place_kept v vs w lt in
    let within : place_in v (vs ++ w ∷ []) < length (vs ++ w ∷ []) = omega (arith, lt, kept, length-append vs (w ∷ [])) in
    ap (λ b. place_if b (place_in v (vs ++ w ∷ []))) (lt-ltb _ _ within)
    ∙ ap Some kept
    ∙ sym (ap (λ b. place_if b (place_in v vs)) (lt-ltb _ _ lt)))
    (λ le.
    let more = ap (λ b. one_if (not b)) (ne_eqb w v (λ same. apart (sym same))) in
    let at = place_last v vs w (omega (arith, le, place_within v vs)) in
    let past : length (vs ++ w ∷ []) ≤ place_in v (vs ++ w ∷ []) = omega (arith, at, more, length-append vs (w ∷ [])) in
    ap (λ b. place_if b (place_in v (vs ++ w ∷ []))) (le-ltb _ _ past)
    ∙ sym (ap (λ b. place_if b (place_in v vs)) (le-ltb _ _ le)))
    (cases_lt (place_in v vs) (length vs))

module _ (vs : List ℕ) (places : List (Option ℕ)) (h : HasPlaces vs places) where
  -- there are no more variables than numbers
  pub few_places : length vs ≤ 1024
  few_places = few 1024 vs h.below h.once

  module _ (w : ℕ) (lt : w < 1024) where
    -- what was read of the table
    pub entry : (o : Option ℕ) → o ≡ get_or places w o → position (λ u. u == w) vs ≡ o
    entry o is = sym (h.place w o lt) ∙ sym is

    -- one with an entry stands there
    pub known_stays : (i : ℕ) → position (λ u. u == w) vs ≡ Some i → with_one_more vs w ≡ vs
    known_stays i some =
        let there = place_stands w vs (entry_below w vs i some) in
        ap (λ b. if b then vs ++ w ∷ [] else vs) (ne_eqb (times w vs) 0 (λ z. omega (arith, z, there)))

    module _ (none : position (λ u. u == w) vs ≡ None) where
      not_there : times w vs ≡ 0
      not_there =
          let is = no_entry w vs none in
          ⊎_elim
          (λ some. absurd (omega (arith, is, place_below w vs some)))
          (λ le. omega (arith, le))
          (cases_lt 0 (times w vs))

      -- a variable without an entry goes behind all
      pub new_at_last : with_one_more vs w ≡ vs ++ w ∷ []
      new_at_last = ap (λ n. if n == 0 then vs ++ w ∷ [] else vs) not_there

      once_new : (v : ℕ) → times v (vs ++ w ∷ []) ≤ 1
      once_new v = by (w == v) refl
        where
          by : (b : Bool) → (w == v) ≡ b → times v (vs ++ w ∷ []) ≤ 1
          by true e =
              let one = ap one_if e in
              let same = ap (λ u. times u vs) (eqb-true w v e) in
              omega (arith, one, same, not_there, times_append v vs (w ∷ []), times_cons v w [])
          by false e =
              let other = ap one_if e in
              omega (arith, other, h.once v, times_append v vs (w ∷ []), times_cons v w [])

      -- the table has the new one's place
      pub places_new : HasPlaces (vs ++ w ∷ []) (set places w (Some (length vs)))
      places_new = record {
        once = once_new;
        below = All-push (λ v. v < 1024) vs w h.below lt;
        size = length-set places w (Some (length vs)) ∙ h.size;
        place = λ v d below.
            ⊎_elim
            (λ same. subst (λ u. get_or (set places w (Some (length vs))) u d ≡ position (λ x. x == u) (vs ++ w ∷ [])) (sym same) (get_or-set_same places w (Some (length vs)) d (omega (arith, h.size, lt)) ∙ sym (entry_new w vs none)))
            (λ apart. get_or-set_other places w v (Some (length vs)) d apart ∙ h.place v d below ∙ sym (entry_other v w vs apart))
            (cases_eq v w);
      }

pub no_option : (o : Option ℕ) → is_some o ≡ false → o ≡ None
no_option None e = refl
no_option (Some i) e = absurd (cc)

pub some_option : (o : Option ℕ) → is_some o ≡ true → (i : ℕ) × (o ≡ Some i)
some_option None e = absurd (cc)
some_option (Some i) e = (i, refl)
