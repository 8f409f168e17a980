-- Places in lists, and elements that differ.
use Rattle.std.proofs.Common.{◌≡◌, ◌≢◌, ℕ, zero, suc, ◌<◌, ◌≤◌, ◌⊎◌, ⊎_elim, inl, inr, List, [], ◌∷◌, ◌++◌, length, take, get_or, Some, refl, sym, ap, ◌∙◌, arith, length-take-le}
use Rattle.std.specs.Prelude.{slice_get}
use Rattle.std.specs.List.{AllPairs}
use Rattle.std.proofs.lemmas.Bool.{cases_order}
use Rattle.std.proofs.lemmas.List.{get_or-take}
use Rattle.std.proofs.lemmas.Option.{same_Some, none-some}

module _ {X : Type 0} where
  -- what stands in a list with one more is the new element, or stood there before
  pub at_push :
      (xs : List X) (x y : X) (i : ℕ) → slice_get (xs ++ x ∷ []) i ≡ Some y
      → (slice_get xs i ≡ Some y) ⊎ ((i ≡ length xs) × (x ≡ y))
  at_push [] x y zero at = inr (refl, same_Some x y at)
  at_push [] x y (suc i) at = absurd (none-some y at)
  at_push (z ∷ xs) x y zero at = inl at
  at_push (z ∷ xs) x y (suc i) at =
      ⊎_elim (λ old. inl old) (λ new. inr (ap suc new.0, new.1)) (at_push xs x y i at)

  -- what stands in the beginning of a list stands there in the list
  pub at_take :
      (k : ℕ) (xs : List X) (i : ℕ) (x : X) → slice_get (take k xs) i ≡ Some x
      → (slice_get xs i ≡ Some x) × (i < k)
  at_take zero xs i x at = absurd (none-some x at)
  at_take (suc k) [] i x at = absurd (none-some x at)
  at_take (suc k) (y ∷ xs) zero x at = (at, omega arith)
  at_take (suc k) (y ∷ xs) (suc i) x at = let r = at_take k xs i x at in (r.0, omega (arith, r.1))

  -- where elements differ, one stands at one place alone
  pub one_place :
      (xs : List X) (d : X) → AllPairs (λ x y. x ≢ y) xs → (i j : ℕ) → i < length xs → j < length xs
      → get_or xs i d ≡ get_or xs j d → i ≡ j
  one_place xs d differ i j lt_i lt_j same =
      ⊎_elim
      (λ e. e)
      (λ apart. absurd (⊎_elim (λ lt. differ i j d lt lt_j same) (λ lt. differ j i d lt lt_i (sym same)) apart))
      (cases_order i j)

  pub differ_take :
      (k : ℕ) (xs : List X) → k ≤ length xs → AllPairs (λ x y. x ≢ y) xs
      → AllPairs (λ x y. x ≢ y) (take k xs)
  differ_take k xs le differ i j d lt within same =
      let lt_j : j < k = omega (arith, length-take-le k xs le) in
      let lt_i : i < k = omega arith in
      differ i j d lt (omega arith) (sym (get_or-take k xs i d lt_i) ∙ same ∙ get_or-take k xs j d lt_j)

  -- a list ends with an element unless it is empty
  pub last_of : (xs : List X) → (xs ≡ []) ⊎ ((ys : List X) × (y : X) × (xs ≡ ys ++ y ∷ []))
  last_of [] = inl refl
  last_of (x ∷ xs) =
      inr (⊎_elim (λ none. ([], x, ap (λ zs. x ∷ zs) none)) (λ last. (x ∷ last.0, last.1, ap (λ zs. x ∷ zs) last.2)) (last_of xs))

  -- what stands in a list stands there where more comes behind
  pub kept_at :
      (xs more : List X) (d : X) → take (length xs) more ≡ xs → (k : ℕ) → k < length xs
      → get_or more k d ≡ get_or xs k d
  kept_at xs more d kept k lt =
      sym (get_or-take (length xs) more k d lt) ∙ ap (λ ys. get_or ys k d) kept
