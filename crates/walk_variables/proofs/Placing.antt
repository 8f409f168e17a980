-- The places of numbers that differ, by the numbers.
use Rattle.std.proofs.Common.{◌≡◌, ◌≢◌, ◌<◌, ◌≤◌, ◌⊎◌, ℕ, suc, List, length, get_or, Some, refl, sym, ap, ◌∙◌, subst, ⊎_elim, arith}
use Rattle.std.specs.Prelude.{slice_get, slice_set}
use Rattle.std.specs.List.{AllPairs}
use Rattle.std.proofs.lemmas.Bool.{cases_order}
use Rattle.std.proofs.lemmas.List.{length-set, get_or-set_same, get_or-set_other}
use Rattle.std.proofs.lemmas.Option.{slice_get_within, slice_get-get_or, get_or_from_slice_get, same_Some}

-- one member of members that differ has one place
pub same_place : {X : Type 0} (xs : List X) → AllPairs (λ a b. a ≢ b) xs → (i j : ℕ) (x : X) → slice_get xs i ≡ Some x → slice_get xs j ≡ Some x → i ≡ j
same_place xs differ i j x at other =
    ⊎_elim (λ e. e)
    (λ h. ⊎_elim (λ lt. absurd (differ i j x lt (slice_get_within xs j x other) (get_or_from_slice_get xs i x x at ∙ sym (get_or_from_slice_get xs j x x other))))
    (λ lt. absurd (differ j i x lt (slice_get_within xs i x at) (get_or_from_slice_get xs j x x other ∙ sym (get_or_from_slice_get xs i x x at)))) h)
    (cases_order i j)

-- the place of each of the first numbers stands at the number
abbrev pub AreAt : List ℕ → ℕ → List ℕ → Type 0
AreAt numbers count places =
    (k n : ℕ) → k < count → slice_get numbers k ≡ Some n → slice_get places n ≡ Some k

set_here : (places : List ℕ) (n k : ℕ) → n < length places → slice_get (slice_set places n k) n ≡ Some k
set_here places n k lt =
    let size = length-set places n k in
    slice_get-get_or (slice_set places n k) n 0 (omega (arith, lt, size)) ∙ ap Some (get_or-set_same places n k 0 lt)

set_there : (places : List ℕ) (n m k j : ℕ) → m ≢ n → slice_get places m ≡ Some j → slice_get (slice_set places n k) m ≡ Some j
set_there places n m k j other at =
    let size = length-set places n k in
    let within = slice_get_within places m j at in
    slice_get-get_or (slice_set places n k) m 0 (omega (arith, within, size))
    ∙ ap Some (get_or-set_other places n m k 0 other ∙ get_or_from_slice_get places m j 0 at)

-- and that of one more
pub one_more : (numbers places : List ℕ) (count number : ℕ) → AllPairs (λ a b. a ≢ b) numbers → slice_get numbers count ≡ Some number → number < length places → AreAt numbers count places → AreAt numbers (suc count) (slice_set places number count)
one_more numbers places count number differ at within h k n lt is =
    ⊎_elim here (λ o. ⊎_elim earlier (λ late. absurd (no late)) o) (cases_order k count)
  where
    no : count < k → ⊥
    no late = omega (arith, late, lt)

    here : k ≡ count → slice_get (slice_set places number count) n ≡ Some k
    here e =
        let same : n ≡ number = same_Some n number (sym is ∙ ap (slice_get numbers) e ∙ at) in
        subst (λ m. slice_get (slice_set places number count) m ≡ Some k) (sym same) (set_here places number count within ∙ ap Some (sym e))

    apart : k < count → k ≡ count → ⊥
    apart early e = omega (arith, early, e)

    earlier : k < count → slice_get (slice_set places number count) n ≡ Some k
    earlier early = set_there places number n count k (λ e. apart early (same_place numbers differ k count number (is ∙ ap Some e) at)) (h k n early is)
