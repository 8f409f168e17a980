-- What a test of every element of a list answers, and a test for some element.
use Rattle.std.proofs.Common.{◌≡◌, ◌↔◌, ◌<◌, ℕ, Bool, true, false, IsTrue, MatchBool, List, [], ◌∷◌, ◌+◌, length, length-drop, get_or, take, drop, ◌-◌, refl, subst, arith}
use Rattle.std.specs.Prelude.{All, Any, not}
use Rattle.std.specs.List.{HoldsAt, AllWithin}
use Rattle.std.proofs.lemmas.List.{get_or_default, take_all}
use Rattle.std.proofs.lemmas.List.Elements.{All-from_all_within, All-weaker, All-cons, All-head, All-tail}
use Rattle.priz_base.proofs.More.{drop_at}

-- the test said true of each element, or it said false of one
pub every : {X : Type 0} (P : X → Type 0) (xs : List X) (r : Bool) → MatchBool r (AllWithin (λ x. IsTrue true ↔ P x) xs 0 (length xs)) ((k : ℕ) × (k < length xs) × HoldsAt (λ x. IsTrue false ↔ P x) xs k) → IsTrue r ↔ All P xs
every P xs true h = (λ e. All-weaker (λ x. IsTrue true ↔ P x) P (λ x d. d.0 refl) xs (All-from_all_within (λ x. IsTrue true ↔ P x) xs h), λ a. refl)
every P [] false h = absurd (omega (arith, h.1))
every P (x ∷ xs) false h = (λ e. absurd (cc), λ a. (h.2 x).1 (a h.0 x h.1))

-- it said true of one element, or false of each
pub some : {X : Type 0} (P : X → Type 0) (xs : List X) (r : Bool) → MatchBool r ((k : ℕ) × (k < length xs) × HoldsAt (λ x. IsTrue true ↔ P x) xs k) (AllWithin (λ x. IsTrue false ↔ P x) xs 0 (length xs)) → IsTrue r ↔ Any P xs
some P [] true h = absurd (omega (arith, h.1))
some P (x ∷ xs) true h = (λ e. (h.0, get_or (x ∷ xs) h.0 x, h.1, get_or_default (x ∷ xs) h.0 (get_or (x ∷ xs) h.0 x) x h.1, (h.2 x).0 refl), λ a. refl)
some P xs false h = (λ e. absurd (cc), λ a. (subst (λ y. IsTrue false ↔ P y) a.3 (All-from_all_within (λ x. IsTrue false ↔ P x) xs h a.0 a.1 a.2)).1 a.4)

-- an answer of true, and one of false
pub held : {P : Type 0} (r : Bool) → r ≡ true → P → IsTrue r ↔ P
held r e p = (λ t. p, λ q. e)

pub failed : {P : Type 0} (r : Bool) → r ≡ false → (P → ⊥) → IsTrue r ↔ P
failed r e n = (λ t. absurd (cc), λ p. absurd (n p))

-- in a loop the rest decides, and does so without an element that has P where the elements behind it have
pub rest_decides : {X : Type 0} {Q : Type 0} (P : X → Type 0) (xs : List X) (i : ℕ) (x : X) → i < length xs → x ≡ get_or xs i x → (All P (drop (i + 1) xs) → P x) → All P (drop i xs) ↔ Q → All P (drop (i + 1) xs) ↔ Q
rest_decides {Q = Q} P xs i x lt is f d =
    let e : All P (x ∷ drop (i + 1) xs) ↔ Q = subst (λ ys. All P ys ↔ Q) (drop_at xs i x lt is) d in
    (λ h. e.0 (All-cons P x (drop (i + 1) xs) (f h) h), λ q. All-tail P x (drop (i + 1) xs) (e.1 q))

pub first_of_rest : {X : Type 0} {Q : Type 0} (P : X → Type 0) (xs : List X) (i : ℕ) (x : X) → i < length xs → x ≡ get_or xs i x → All P (drop i xs) ↔ Q → Q → P x
first_of_rest {Q = Q} P xs i x lt is d q =
    All-head P x (drop (i + 1) xs) (subst (All P) (drop_at xs i x lt is) (d.1 q))

-- what the opposite of a test tells of it
pub was_false : (v r : Bool) → v ≡ not r → v ≡ true → r ≡ false
was_false v true e t = absurd (cc)
was_false v false e t = refl

pub was_true : (v r : Bool) → v ≡ not r → v ≡ false → r ≡ true
was_true v true e t = refl
was_true v false e t = absurd (cc)

-- the slice from a place to the end
pub tail_whole : {X : Type 0} (xs : List X) (k : ℕ) → take (length xs - k) (drop k xs) ≡ drop k xs
tail_whole xs k = take_all (length xs - k) (drop k xs) (omega (arith, length-drop k xs))
