-- How many statements have an output that isn't known: what is left to learn.
use Rattle.std.proofs.Common.{◌≡◌, ℕ, zero, suc, ◌+◌, ◌<◌, ◌≤◌, Bool, true, false, cond, List, [], ◌∷◌, Some, refl, ap, ◌∙◌, arith}
use Rattle.std.specs.Prelude.{Contains, nat_eq, slice_get}
use Rattle.std.specs.List.{list_any}
use Rattle.std.proofs.lemmas.Bool.{eqb-true}
use Rattle.std.proofs.lemmas.Cmp.{nat_eq_equiv}
use Rattle.std.proofs.lemmas.Map.Views.{list_any-from_Contains, Contains-from_any}
use Rattle.statement_set.specs.declared.statement.Statement.{Statement}

-- 0 for a known variable, 1 for another
abbrev pub weight : List ℕ → ℕ → ℕ
weight known v = cond (list_any (nat_eq v) known) 0 1

abbrev pub left : List ℕ → List Statement → ℕ
left known [] = 0
left known (s ∷ ss) = weight known s.output + left known ss

known_weight : (known : List ℕ) (v : ℕ) → Contains known v → weight known v ≡ 0
known_weight known v c = rw (list_any-from_Contains nat_eq_equiv v known c) refl

one_of : (b : Bool) → (b ≡ true → ⊥) → ◌≡◌ {A = ℕ} (cond b 0 1) 1
one_of true h = absurd (h refl)
one_of false h = refl

unknown_weight : (known : List ℕ) (v : ℕ) → (Contains known v → ⊥) → weight known v ≡ 1
unknown_weight known v lacks = one_of (list_any (nat_eq v) known) (λ e. lacks (Contains-from_any (λ x y q. eqb-true x y q) v known e))

less_of : (a b : Bool) → (b ≡ true → a ≡ true) → cond a 0 1 ≤ cond b 0 1
less_of true b h = omega arith
less_of false true h = absurd (let t = h refl in cc)
less_of false false h = omega arith

weight_falls : (known new : List ℕ) (v : ℕ) → (Contains known v → Contains new v) → weight new v ≤ weight known v
weight_falls known new v sub =
    less_of (list_any (nat_eq v) new) (list_any (nat_eq v) known)
    (λ e. list_any-from_Contains nat_eq_equiv v new (sub (Contains-from_any (λ x y q. eqb-true x y q) v known e)))

left_falls : (known new : List ℕ) (ss : List Statement) → ((v : ℕ) → Contains known v → Contains new v) → left new ss ≤ left known ss
left_falls known new [] sub = omega arith
left_falls known new (s ∷ ss) sub = omega (arith, weight_falls known new s.output (sub s.output), left_falls known new ss sub)

-- a statement was learnt
pub less_left : (known new : List ℕ) (ss : List Statement) (n : ℕ) (s : Statement) → slice_get ss n ≡ Some s → (Contains known s.output → ⊥) → Contains new s.output → ((v : ℕ) → Contains known v → Contains new v) → left new ss < left known ss
less_left known new [] n s e lacks has sub = absurd (cc)
less_left known new (t ∷ ss) zero s e lacks has sub =
    let same : t ≡ s = cc in
    let before : weight known t.output ≡ 1 = ap (λ (x : Statement). weight known x.output) same ∙ unknown_weight known s.output lacks in
    let after : weight new t.output ≡ 0 = ap (λ (x : Statement). weight new x.output) same ∙ known_weight new s.output has in
    omega (arith, before, after, left_falls known new ss sub)
less_left known new (t ∷ ss) (suc n) s e lacks has sub =
    omega (arith, weight_falls known new t.output (sub t.output), less_left known new ss n s e lacks has sub)
