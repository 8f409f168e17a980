-- Elements of lists by their places.
use Rattle.std.proofs.Common.{◌≡◌, ℕ, zero, suc, ◌+◌, ◌<◌, List, [], ◌∷◌, ◌++◌, ◌⊎◌, inl, inr, ⊎_elim, Some, length, take, get_or, refl, sym, ap, ◌∙◌, arith}
use Rattle.std.specs.Prelude.{slice_get}
use Rattle.std.proofs.Math.Seq.{take-suc}

-- the first elements of lists that are one, and the elements behind them
pub heads : {A : Type 0} (x y : A) (xs ys : List A) → x ∷ xs ≡ y ∷ ys → x ≡ y
heads {A} x y xs ys e = ap first e
  where
    first : List A → A
    first [] = x
    first (z ∷ zs) = z

pub tails : {A : Type 0} (x y : A) (xs ys : List A) → x ∷ xs ≡ y ∷ ys → xs ≡ ys
tails {A} x y xs ys e = ap rest e
  where
    rest : List A → List A
    rest [] = []
    rest (z ∷ zs) = zs

-- an element stays where it is when others are added behind
pub get_left : {A : Type 0} (xs ys : List A) (n : ℕ) (x : A) → slice_get xs n ≡ Some x → slice_get (xs ++ ys) n ≡ Some x
get_left [] ys n x e = absurd (cc)
get_left (y ∷ xs) ys zero x e = e
get_left (y ∷ xs) ys (suc n) x e = get_left xs ys n x e

-- those behind follow
pub get_right : {A : Type 0} (xs ys : List A) (n : ℕ) → slice_get (xs ++ ys) (length xs + n) ≡ slice_get ys n
get_right [] ys n = let e : 0 + n ≡ n = omega arith in ap (slice_get ys) e
get_right (x ∷ xs) ys n =
    let e : suc (length xs) + n ≡ suc (length xs + n) = omega arith in
    ap (slice_get (x ∷ (xs ++ ys))) e ∙ get_right xs ys n

-- an element of two lists stands in one of them
pub get_either : {A : Type 0} (xs ys : List A) (n : ℕ) (q : A) → slice_get (xs ++ ys) n ≡ Some q → (slice_get xs n ≡ Some q) ⊎ ((k : ℕ) × ((n ≡ length xs + k) × (slice_get ys k ≡ Some q)))
get_either [] ys n q e = inr (n, (omega arith, e))
get_either (x ∷ xs) ys zero q e = inl e
get_either (x ∷ xs) ys (suc n) q e = ⊎_elim (λ h. inl h) (λ h. inr (h.0, (omega (arith, h.1.0), h.1.1))) (get_either xs ys n q e)

-- an element that is there
pub there : {A : Type 0} (xs : List A) (k : ℕ) → k < length xs → (x : A) × (slice_get xs k ≡ Some x)
there [] k h = absurd (omega arith)
there (x ∷ xs) zero h = (x, refl)
there (x ∷ xs) (suc k) h = there xs k (omega arith)

-- one more of the first elements
pub take_next : {A : Type 0} (xs : List A) (i : ℕ) (x d : A) → i < length xs → x ≡ get_or xs i d → take (i + 1) xs ≡ take i xs ++ x ∷ []
take_next xs i x d h e =
    let k : suc i ≡ i + 1 = omega arith in
    ap (λ j. take j xs) (sym k) ∙ take-suc xs i d h ∙ ap (λ y. take i xs ++ y ∷ []) (sym e)

-- a list around the element at an index
pub split_index : {A : Type 0} (xs : List A) (i : ℕ) (x d : A) → i < length xs → x ≡ get_or xs i d → (more : List A) × (xs ≡ take i xs ++ x ∷ more)
split_index [] i x d h e = absurd (omega arith)
split_index {A} (y ∷ xs) zero x d h e = (xs, ap (λ (z : A). z ∷ xs) (sym e))
split_index {A} (y ∷ xs) (suc i) x d h e = let r = split_index xs i x d (omega arith) e in (r.0, ap (λ (zs : List A). y ∷ zs) r.1)
