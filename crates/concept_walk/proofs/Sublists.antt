-- Some of the elements of a list, in their order.
use Rattle.std.proofs.Common.{◌≡◌, ◌≢◌, ◌<◌, ℕ, suc, List, [], ◌∷◌, ◌++◌, ◌⊎◌, inl, inr, ⊎_elim, map, length, get_or, refl, sym, ap, ◌∙◌, subst, AllPairs, arith}
use Rattle.std.specs.Prelude.{Contains, ⊤}
use Rattle.std.proofs.lemmas.List.Elements.{All-map, Contains-get_or}
use Rattle.std.proofs.lemmas.List.Kept.{AllPairs-cons}
use Rattle.priz_base.proofs.Members.{contains_here, contains_there, contains_cases, contains_none}

module _ {X : Type 0} where
  -- the first list is what is left of the second one where some elements are taken out
  abbrev pub IsSublist : List X → List X → Type 0
  IsSublist [] ys = ⊤
  IsSublist (x ∷ xs) [] = ⊥
  IsSublist (x ∷ xs) (y ∷ ys) = ((x ≡ y) × IsSublist xs ys) ⊎ IsSublist (x ∷ xs) ys

  -- a first element may be taken out
  pub sublist_behind : (y : X) (xs ys : List X) → IsSublist xs ys → IsSublist xs (y ∷ ys)
  sublist_behind y [] ys h = tt
  sublist_behind y (x ∷ xs) ys h = inr h

  -- so may all of a first list
  sublist_of_end : (ys us vs : List X) → IsSublist us vs → IsSublist us (ys ++ vs)
  sublist_of_end [] us vs h = h
  sublist_of_end (y ∷ ys) us vs h = sublist_behind y us (ys ++ vs) (sublist_of_end ys us vs h)

  -- one list behind the other
  pub sublist_append :
      (xs ys us vs : List X) → IsSublist xs ys → IsSublist us vs
      → IsSublist (xs ++ us) (ys ++ vs)
  sublist_append [] ys us vs h k = sublist_of_end ys us vs k
  sublist_append (x ∷ xs) [] us vs h k = absurd h
  sublist_append (x ∷ xs) (y ∷ ys) us vs h k =
      ⊎_elim (λ a. inl (a.0, sublist_append xs ys us vs a.1 k))
      (λ b. inr (sublist_append (x ∷ xs) ys us vs b k)) h

  -- what is left was there
  pub sublist_member :
      (xs ys : List X) (x : X) → IsSublist xs ys → Contains xs x → Contains ys x
  sublist_member [] ys x h c = absurd (contains_none x c)
  sublist_member (z ∷ xs) [] x h c = absurd h
  sublist_member (z ∷ xs) (y ∷ ys) x h c =
      ⊎_elim
      (λ a.
      ⊎_elim (λ e. subst (Contains (y ∷ ys)) (sym a.0 ∙ e) (contains_here y ys))
      (λ k. contains_there y ys x (sublist_member xs ys x a.1 k)) (contains_cases z xs x c))
      (λ b. contains_there y ys x (sublist_member (z ∷ xs) ys x b c)) h

  -- the first of elements that differ is none of the others
  first_differs :
      (y : X) (ys : List X) → AllPairs (λ x y. x ≢ y) (y ∷ ys) → (x : X) → Contains ys x → y ≢ x
  first_differs y ys d x c e = d 0 (suc c.0) x (omega arith) (omega (arith, c.1)) (e ∙ sym c.2)

  -- and the others differ
  rest_differs :
      (y : X) (ys : List X) → AllPairs (λ x y. x ≢ y) (y ∷ ys) → AllPairs (λ x y. x ≢ y) ys
  rest_differs y ys d i j e lt within =
      d (suc i) (suc j) e (omega (arith, lt)) (omega (arith, within))

  -- what is left of elements that differ
  pub sublist_differs :
      (xs ys : List X) → IsSublist xs ys → AllPairs (λ x y. x ≢ y) ys
      → AllPairs (λ x y. x ≢ y) xs
  sublist_differs [] ys h d = λ i j e lt within. absurd (omega (arith, within))
  sublist_differs (x ∷ xs) [] h d = absurd h
  sublist_differs (x ∷ xs) (y ∷ ys) h d =
      ⊎_elim
      (λ a.
      AllPairs-cons (λ x y. x ≢ y) x xs
      (λ k e lt same. first_differs y ys d (get_or xs k e) (sublist_member xs ys (get_or xs k e) a.1 (Contains-get_or xs k e lt)) (sym a.0 ∙ same))
      (sublist_differs xs ys a.1 (rest_differs y ys d)))
      (λ b. sublist_differs (x ∷ xs) ys b (rest_differs y ys d)) h

-- elements that differ still do by a map that is one to one at them
pub mapped_differ :
    {X Y : Type 0} (f : X → Y) (xs : List X)
    → ((a b : X) → Contains xs a → Contains xs b → f a ≡ f b → a ≡ b)
    → AllPairs (λ x y. x ≢ y) xs → AllPairs (λ x y. x ≢ y) (map f xs)
mapped_differ f [] once d = λ i j e lt within. absurd (omega (arith, within))
mapped_differ f (x ∷ xs) once d =
    AllPairs-cons (λ x y. x ≢ y) (f x) (map f xs)
    (All-map (λ y. f x ≢ y) f xs (λ k e lt same.
    let c = Contains-get_or xs k e lt in
    first_differs x xs d (get_or xs k e) c (once x (get_or xs k e) (contains_here x xs) (contains_there x xs (get_or xs k e) c) same)))
    (mapped_differ f xs
    (λ a b h k e. once a b (contains_there x xs a h) (contains_there x xs b k) e)
    (rest_differs x xs d))
