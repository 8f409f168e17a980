-- One more element: of a list, of a map, of a set, of a text.
use Rattle.std.proofs.Common.{◌≡◌, ◌↔◌, ℕ, zero, suc, ◌+◌, ◌<◌, List, [], ◌∷◌, ◌++◌, length, get_or, take, drop, map, Some, sym, ap, ◌∙◌, subst, ⊎_elim, inl, inr, append_assoc, arith}
use Rattle.std.specs.Prelude.{Contains, slice_get}
use Rattle.std.proofs.lemmas.List.{take_more, drop_more, map-append}
use Rattle.std.proofs.lemmas.List.Elements.{Contains-append_left, Contains-push, Contains-push_cases}
use Rattle.priz_base.specs.Sets.{Adds}

-- the element at an index, and those after it
pub drop_at : {X : Type 0} (xs : List X) (i : ℕ) (x : X) → i < length xs → x ≡ get_or xs i x → drop i xs ≡ x ∷ drop (i + 1) xs
drop_at xs i x lt is = drop_more xs i x lt ∙ ap (λ y. y ∷ drop (i + 1) xs) (sym is)

-- one more element of the front of a list
pub take_at : {X : Type 0} (xs : List X) (i : ℕ) (x : X) → i < length xs → x ≡ get_or xs i x → take (i + 1) xs ≡ take i xs ++ x ∷ []
take_at xs i x lt is = take_more xs i x lt ∙ ap (λ y. take i xs ++ y ∷ []) (sym is)

-- one more element of a map
pub map_more : {X Y : Type 0} (f : X → Y) (xs : List X) (i : ℕ) (x : X) → i < length xs → x ≡ get_or xs i x → map f (take (i + 1) xs) ≡ map f (take i xs) ++ f x ∷ []
map_more f xs i x lt is =
    ap (map f) (take_at xs i x lt is) ∙ map-append f (take i xs) (x ∷ [])

-- a set that has the members of a list gets one more, and so does the list
pub same_members : (old new xs : List ℕ) (v : ℕ) → Adds old new v → ((n : ℕ) → Contains old n ↔ Contains xs n) → (n : ℕ) → Contains new n ↔ Contains (xs ++ v ∷ []) n
same_members old new xs v adds same n = (
  λ c. ⊎_elim (λ s. subst (Contains (xs ++ v ∷ [])) (sym s) (Contains-push xs v)) (λ o. Contains-append_left xs (v ∷ []) n ((same n).0 o)) ((adds n).0 c),
  λ c. (adds n).1 (⊎_elim (λ o. inr ((same n).1 o)) (λ s. inl (sym s)) (Contains-push_cases xs v n c)),
)

-- a piece was written, and what is left is shorter by it
pub moved_on : {X : Type 0} (out new piece rest whole : List X) → out ++ (piece ++ rest) ≡ whole → new ≡ out ++ piece → new ++ rest ≡ whole
moved_on out new piece rest whole so_far e = rw e (append_assoc out piece rest ∙ so_far)

-- what stands at a place stands within the list
pub some_below : {X : Type 0} (xs : List X) (k : ℕ) (x : X) → slice_get xs k ≡ Some x → k < length xs
some_below [] k x e = absurd (cc)
some_below (y ∷ xs) zero x e = omega arith
some_below (y ∷ xs) (suc k) x e = omega (arith, some_below xs k x e)
