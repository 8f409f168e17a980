-- Each number of a list once, where it stands first.
use Rattle.std.proofs.Common.{◌≡◌, ℕ, ◌≤◌, Bool, true, false, cond, List, [], ◌∷◌, ◌++◌, refl, sym, ap, ◌∙◌, subst, arith}
use Rattle.std.specs.Prelude.{All, not, ◌==◌, if◌then◌else◌}
use Rattle.std.specs.List.{filter}
use Rattle.std.proofs.lemmas.Bool.{eqb-true, eq-eqb, ne_eqb}
use Rattle.std.proofs.lemmas.List.{append-nil}
use Rattle.std.proofs.lemmas.List.Elements.{filter-append, All-filter, All-head, All-tail, All-cons}
use Rattle.equation_statements.specs.SolvingStatements.{firsts}
use Rattle.equation_statements.specs.steps.Places.{times, with_one_more}
use Rattle.equation_statements.proofs.Times.{one_if, is_other, is_other_from, turned, times_cons, times_filter, times_kept, times_without, filter_all}

pub firsts_once : (vs : List ℕ) (v : ℕ) → times v (firsts vs) ≤ 1
firsts_once [] v = omega arith
firsts_once (u ∷ us) v = by (firsts_once us v) (u == v) refl
  where
    by : times v (firsts us) ≤ 1 → (b : Bool) → (u == v) ≡ b → times v (firsts (u ∷ us)) ≤ 1
    by rest true e =
        let one = ap one_if e in
        let none = subst (λ w. times w (filter (is_other u) (firsts us)) ≡ 0) (eqb-true u v e) (times_without u (firsts us)) in
        omega (arith, one, none, times_cons v u (filter (is_other u) (firsts us)))
    by rest false e =
        let none = ap one_if e in
        omega (arith, none, rest, times_cons v u (filter (is_other u) (firsts us)), times_filter (is_other u) v (firsts us))

pub firsts_fewer : (vs : List ℕ) (v : ℕ) → times v (firsts vs) ≤ times v vs
firsts_fewer [] v = omega arith
firsts_fewer (u ∷ us) v =
    omega (arith, firsts_fewer us v, times_cons v u us, times_cons v u (filter (is_other u) (firsts us)), times_filter (is_other u) v (firsts us))

pub firsts_keep : (vs : List ℕ) (v : ℕ) → 1 ≤ times v vs → 1 ≤ times v (firsts vs)
firsts_keep [] v some = some
firsts_keep (u ∷ us) v some = by (firsts_keep us v) (u == v) refl
  where
    by : (1 ≤ times v us → 1 ≤ times v (firsts us)) → (b : Bool) → (u == v) ≡ b → 1 ≤ times v (firsts (u ∷ us))
    by rest true e = let one = ap one_if e in omega (arith, one, times_cons v u (filter (is_other u) (firsts us)))
    by rest false e =
        let none = ap one_if e in
        let apart : is_other u v ≡ true = ap not (turned u v e) in
        let there = rest (omega (arith, none, times_cons v u us, some)) in
        omega (arith, there, times_kept (is_other u) v apart (firsts us), times_cons v u (filter (is_other u) (firsts us)))

pub firsts_all : (P : ℕ → Type 0) (vs : List ℕ) → All P vs → All P (firsts vs)
firsts_all P [] all = all
firsts_all P (u ∷ us) all =
    All-cons P u (filter (is_other u) (firsts us)) (All-head P u us all) (All-filter (is_other u) P (firsts us) (firsts_all P us (All-tail P u us all)))

-- a filter whose test follows changes nothing
filter_implied :
    (p q : ℕ → Bool) → ((x : ℕ) → p x ≡ true → q x ≡ true) → (xs : List ℕ)
    → filter p (filter q xs) ≡ filter p xs
filter_implied p q follows [] = refl
filter_implied p q follows (x ∷ xs) = by (filter_implied p q follows xs) (q x) refl (p x) refl
  where
    by :
        filter p (filter q xs) ≡ filter p xs → (b : Bool) → q x ≡ b → (c : Bool) → p x ≡ c
        → filter p (cond b (x ∷ filter q xs) (filter q xs)) ≡ cond c (x ∷ filter p xs) (filter p xs)
    by rest true e true d = rw d (ap (λ ys. x ∷ ys) rest)
    by rest true e false d = rw d rest
    by rest false e true d = let wrong = sym e ∙ follows x d in absurd (cc)
    by rest false e false d = rest

-- what stands in a list once stands there first
pub filter_firsts :
    (p : ℕ → Bool) (vs : List ℕ) → ((v : ℕ) → p v ≡ true → times v vs ≤ 1)
    → filter p (firsts vs) ≡ filter p vs
filter_firsts p [] once = refl
filter_firsts p (u ∷ us) once =
    by (filter_firsts p us (λ v e. omega (arith, once v e, times_cons v u us))) (p u) refl
  where
    by :
        filter p (firsts us) ≡ filter p us → (b : Bool) → p u ≡ b
        → cond b (u ∷ filter p (filter (is_other u) (firsts us))) (filter p (filter (is_other u) (firsts us)))
        ≡ cond b (u ∷ filter p us) (filter p us)
    by rest true e =
        let one = ap one_if (eq-eqb u u refl) in
        let none : times u (firsts us) ≡ 0 = omega (arith, one, once u e, times_cons u u us, firsts_fewer us u) in
        ap (λ ys. u ∷ ys) (ap (filter p) (filter_all u (firsts us) none) ∙ rest)
    by rest false e =
        filter_implied p (is_other u) (λ x passes. apart x passes) (firsts us) ∙ rest
      where
        apart : (x : ℕ) → p x ≡ true → is_other u x ≡ true
        apart x passes = is_other_from u x (λ same. let wrong = sym passes ∙ ap p same ∙ e in absurd (cc))

-- one more behind a list
abbrev pushed : Bool → List ℕ → ℕ → List ℕ
pushed b vs v = if b then vs ++ v ∷ [] else vs

filter_pushed :
    (u v : ℕ) (b : Bool) (vs : List ℕ) → (u == v) ≡ true
    → filter (is_other u) (pushed b vs v) ≡ filter (is_other u) vs
filter_pushed u v true vs e =
    let out : is_other u v ≡ false = ap not (eq-eqb v u (sym (eqb-true u v e))) in
    filter-append (is_other u) vs (v ∷ []) ∙ rw out (append-nil (filter (is_other u) vs))
filter_pushed u v false vs e = refl

filter_pushed_other :
    (u v : ℕ) (b : Bool) (vs : List ℕ) → is_other u v ≡ true
    → filter (is_other u) (pushed b vs v) ≡ pushed b (filter (is_other u) vs) v
filter_pushed_other u v true vs e = filter-append (is_other u) vs (v ∷ []) ∙ rw e refl
filter_pushed_other u v false vs e = refl

pushed_behind :
    (b : Bool) (u : ℕ) (vs : List ℕ) (v : ℕ) → u ∷ pushed b vs v ≡ pushed b (u ∷ vs) v
pushed_behind true u vs v = refl
pushed_behind false u vs v = refl

pub firsts_push : (vs : List ℕ) (v : ℕ) → firsts (vs ++ v ∷ []) ≡ with_one_more (firsts vs) v
firsts_push [] v = refl
firsts_push (u ∷ us) v = ap (λ ws. u ∷ filter (is_other u) ws) (firsts_push us v) ∙ by (u == v) refl
  where
    by :
        (b : Bool) → (u == v) ≡ b
        → u ∷ filter (is_other u) (with_one_more (firsts us) v) ≡ with_one_more (firsts (u ∷ us)) v
    by true e =
        let one = ap one_if e in
        let some : 1 ≤ times v (firsts (u ∷ us)) = omega (arith, one, times_cons v u (filter (is_other u) (firsts us))) in
        ap (λ ws. u ∷ ws) (filter_pushed u v (times v (firsts us) == 0) (firsts us) e)
        ∙ sym (ap (λ t. pushed t (firsts (u ∷ us)) v) (ne_eqb (times v (firsts (u ∷ us))) 0 (λ z. omega arith)))
    by false e =
        let none = ap one_if e in
        let apart : is_other u v ≡ true = ap not (turned u v e) in
        let same : times v (firsts (u ∷ us)) ≡ times v (firsts us) = omega (arith, none, times_kept (is_other u) v apart (firsts us), times_cons v u (filter (is_other u) (firsts us))) in
        ap (λ ws. u ∷ ws) (filter_pushed_other u v (times v (firsts us) == 0) (firsts us) apart)
        ∙ pushed_behind (times v (firsts us) == 0) u (filter (is_other u) (firsts us)) v
        ∙ ap (λ n. pushed (n == 0) (firsts (u ∷ us)) v) (sym same)
