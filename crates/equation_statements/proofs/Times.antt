-- How often a number stands in a list.
use Rattle.std.proofs.Common.{◌≡◌, ◌≢◌, ℕ, zero, suc, ◌+◌, ◌<◌, ◌≤◌, Bool, true, false, cond, List, [], ◌∷◌, ◌++◌, length, refl, sym, ap, ◌∙◌, subst, arith}
use Rattle.std.specs.Prelude.{All, not, ◌==◌}
use Rattle.std.specs.List.{filter}
use Rattle.std.proofs.Math.ListN.{length-append}
use Rattle.std.proofs.lemmas.Bool.{eqb-true, ne_eqb, eq-eqb, eqb-false}
use Rattle.std.proofs.lemmas.List.Elements.{filter-append, All-filter, filter_passes, All-head, All-tail}
use Rattle.std.proofs.lemmas.List.Filters.{length-filter_both}
use Rattle.equation_statements.specs.steps.Places.{times}

abbrev pub one_if : Bool → ℕ
one_if b = cond b 1 0

abbrev pub is_other : ℕ → ℕ → Bool
is_other v w = not (w == v)

-- a number that passes the test is another
pub other : (v w : ℕ) → is_other v w ≡ true → w ≢ v
other v w e same = by (w == v) refl
  where
    by : (b : Bool) → (w == v) ≡ b → ⊥
    by true t = let wrong = ap not t in absurd (cc)
    by false t = let wrong = eq-eqb w v same in absurd (cc)

-- a test that turns the other way round fails too
pub turned : (u v : ℕ) → (u == v) ≡ false → (v == u) ≡ false
turned u v e = ne_eqb v u (λ same. eqb-false u v e (sym same))

pub is_other_from : (v w : ℕ) → w ≢ v → is_other v w ≡ true
is_other_from v w apart = ap not (ne_eqb w v apart)

pub times_cons : (v u : ℕ) (us : List ℕ) → times v (u ∷ us) ≡ one_if (u == v) + times v us
times_cons v u us = by (u == v)
  where
    by : (b : Bool) → length (cond b (u ∷ filter (λ w. w == v) us) (filter (λ w. w == v) us)) ≡ one_if b + times v us
    by true = omega arith
    by false = omega arith

pub times_append : (v : ℕ) (us ws : List ℕ) → times v (us ++ ws) ≡ times v us + times v ws
times_append v us ws =
    ap length (filter-append (λ u. u == v) us ws)
    ∙ length-append (filter (λ u. u == v) us) (filter (λ u. u == v) ws)

-- no filter brings a number in
pub times_filter : (q : ℕ → Bool) (v : ℕ) (us : List ℕ) → times v (filter q us) ≤ times v us
times_filter q v [] = omega arith
times_filter q v (u ∷ us) = by (times_filter q v us) (q u)
  where
    by :
        times v (filter q us) ≤ times v us → (b : Bool)
        → times v (cond b (u ∷ filter q us) (filter q us)) ≤ times v (u ∷ us)
    by rest true = omega (arith, rest, times_cons v u (filter q us), times_cons v u us)
    by rest false = omega (arith, rest, times_cons v u us)

-- a filter keeps a number that passes
pub times_kept : (q : ℕ → Bool) (v : ℕ) → q v ≡ true → (us : List ℕ) → times v (filter q us) ≡ times v us
times_kept q v passes [] = refl
times_kept q v passes (u ∷ us) = by (times_kept q v passes us) (q u) refl
  where
    by :
        times v (filter q us) ≡ times v us → (b : Bool) → q u ≡ b
        → times v (cond b (u ∷ filter q us) (filter q us)) ≡ times v (u ∷ us)
    by rest true e = omega (arith, rest, times_cons v u (filter q us), times_cons v u us)
    by rest false e =
        let apart : u ≢ v = λ same. let wrong = sym e ∙ ap q same ∙ passes in absurd (cc) in
        let none = ap one_if (ne_eqb u v apart) in
        omega (arith, rest, none, times_cons v u us)

-- a number that is left out doesn't stand there
pub times_without : (v : ℕ) (us : List ℕ) → times v (filter (is_other v) us) ≡ 0
times_without v [] = refl
times_without v (u ∷ us) = by (times_without v us) (u == v) refl
  where
    by :
        times v (filter (is_other v) us) ≡ 0 → (b : Bool) → (u == v) ≡ b
        → times v (cond (not b) (u ∷ filter (is_other v) us) (filter (is_other v) us)) ≡ 0
    by rest true e = rest
    by rest false e = let none = ap one_if e in omega (arith, rest, none, times_cons v u (filter (is_other v) us))

-- what doesn't stand there need not be left out
pub filter_all : (v : ℕ) (us : List ℕ) → times v us ≡ 0 → filter (is_other v) us ≡ us
filter_all v [] none = refl
filter_all v (u ∷ us) none = by (filter_all v us) (u == v) refl
  where
    by :
        (times v us ≡ 0 → filter (is_other v) us ≡ us) → (b : Bool) → (u == v) ≡ b
        → cond (not b) (u ∷ filter (is_other v) us) (filter (is_other v) us) ≡ u ∷ us
    by rest true e = let one = ap one_if e in absurd (omega (arith, one, times_cons v u us, none))
    by rest false e = ap (λ ws. u ∷ ws) (rest (omega (arith, times_cons v u us, none)))

-- what holds of all holds of what stands there
pub all_times : (P : ℕ → Type 0) (vs : List ℕ) → All P vs → (w : ℕ) → 1 ≤ times w vs → P w
all_times P [] all w some = absurd (omega arith)
all_times P (v ∷ vs) all w some = by (all_times P vs (All-tail P v vs all) w) (v == w) refl
  where
    by : (1 ≤ times w vs → P w) → (b : Bool) → (v == w) ≡ b → P w
    by rest true e = subst P (eqb-true v w e) (All-head P v vs all)
    by rest false e = let none = ap one_if e in rest (omega (arith, none, times_cons w v vs, some))

below_at : (n u : ℕ) → is_other n u ≡ true → u < suc n → u < n
below_at n u e lt = let apart = other n u e in omega arith

-- numbers below n, each once, are at most n
pub few : (n : ℕ) (vs : List ℕ) → All (λ v. v < n) vs → ((v : ℕ) → times v vs ≤ 1) → length vs ≤ n
few zero [] below once = omega arith
few zero (v ∷ vs) below once = absurd (omega (arith, below 0 0 (omega arith)))
few (suc n) vs below once =
    let q = is_other n in
    let passes = filter_passes (is_other n) vs in
    let kept = All-filter (is_other n) (λ v. v < suc n) vs below in
    let rest = few n (filter (is_other n) vs) (λ k d lt. below_at n _ (passes k d lt) (kept k d lt)) (λ v. omega (arith, times_filter (is_other n) v vs, once v)) in
    omega (arith, rest, once n, length-filter_both (λ u. u == n) (is_other n) (λ u. refl) vs)
