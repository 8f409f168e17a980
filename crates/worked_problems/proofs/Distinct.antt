-- Lists in which nothing stands twice, an element at a time.
use Rattle.std.proofs.Common.{◌≡◌, eqb, true, false, ℕ, ◌+◌, ◌<◌, ◌≤◌, List, length, get_or, take, map, sym, ap, ◌∙◌, subst, arith, length-take}
use Rattle.std.specs.Prelude.{Contains}
use Rattle.std.proofs.lemmas.Bool.{eqb-true, eqb-false}
use Rattle.std.proofs.lemmas.List.{get_or-take, get_or-map, get_or_default, take-map, length-map}
use Rattle.priz_base.proofs.More.{take_at}
use Rattle.statement_set.proofs.Lists.{distinct_push}
use Rattle.worked_problems.specs.Faults.{AreDistinct}

-- an element that stood before
pub twice : {X : Type 0} (xs : List X) (i : ℕ) (x : X) → i < length xs → x ≡ get_or xs i x → Contains (take i xs) x → AreDistinct xs → ⊥
twice xs i x lt is c distinct =
    let below : c.0 < i = omega (arith, length-take i xs, c.1) in
    distinct c.0 i x below lt (sym (get_or-take i xs c.0 x below) ∙ c.2 ∙ is)

-- the same of what a function gives
pub twice_mapped : {X Y : Type 0} (f : X → Y) (xs : List X) (i : ℕ) (x : X) → i < length xs → x ≡ get_or xs i x → Contains (map f (take i xs)) (f x) → AreDistinct (map f xs) → ⊥
twice_mapped f xs i x lt is c distinct =
    twice (map f xs) i (f x) (omega (arith, length-map xs f, lt)) (ap f is ∙ sym (get_or-map f xs i x (f x) lt)) (subst (λ ys. Contains ys (f x)) (sym (take-map f i xs)) c) distinct

-- an element that didn't
pub distinct_more : {X : Type 0} (xs : List X) (i : ℕ) (x : X) → i < length xs → x ≡ get_or xs i x → (Contains (take i xs) x → ⊥) → AreDistinct (take i xs) → AreDistinct (take (i + 1) xs)
distinct_more xs i x lt is fresh distinct = rw (take_at xs i x lt is) (distinct_push (take i xs) x distinct fresh)

-- the same at a place
pub twice_at : {X Y : Type 0} (f : X → Y) (xs : List X) (i : ℕ) (d : X) → i < length xs → Contains (map f (take i xs)) (f (get_or xs i d)) → AreDistinct (map f xs) → ⊥
twice_at f xs i d lt c distinct = twice_mapped f xs i (get_or xs i d) lt (get_or_default xs i d (get_or xs i d) lt) c distinct

-- a search among numbers that found an equal one, or none
pub found : (xs : List ℕ) (v : ℕ) → ((k : ℕ) × (k < length xs) × ((d : ℕ) → eqb (get_or xs k d) v ≡ true)) → Contains xs v
found xs v h = (h.0, h.1, eqb-true (get_or xs h.0 v) v (h.2 v))

pub not_found : (xs : List ℕ) (v : ℕ) → ((k d : ℕ) → 0 ≤ k → k < length xs → eqb (get_or xs k d) v ≡ false) → Contains xs v → ⊥
not_found xs v none c = eqb-false (get_or xs c.0 v) v (none c.0 v (omega arith) c.1) c.2
