-- What holds of the elements of lists and of options.
use Rattle.std.proofs.Common.{◌≡◌, ◌≢◌, ℕ, suc, List, [], ◌∷◌, ◌++◌, Option, Some, None, refl, sym, subst, ◌⊎◌, ⊎_elim, inl, inr, arith}
use Rattle.std.specs.Prelude.{Contains, All, Any, map, IsSomeAnd, slice_get}
use Rattle.std.specs.List.{AllPairs}
use Rattle.std.proofs.lemmas.List.Quantifiers.{all_pairs_push}
use Rattle.std.proofs.lemmas.Bool.{cases_eq}
use Rattle.std.proofs.lemmas.Option.{slice_get_within, get_or_from_slice_get}
use Rattle.std.proofs.lemmas.List.Elements.{All-nil, All-cons, All-contains, All-weaker, All-contains_itself, Contains-append_left, Contains-append_right, Contains-get_or}
use Rattle.priz_base.specs.Sets.{IsWithin}
use Rattle.priz_base.proofs.Members.{contains_here, contains_there, contains_cases, contains_none, contains_map}

-- what holds of each member holds of all
pub each : {X : Type 0} (P : X → Type 0) (xs : List X) → ((x : X) → Contains xs x → P x) → All P xs
each P xs f = All-weaker (Contains xs) P f xs (All-contains_itself xs)

pub all_left : {X : Type 0} (P : X → Type 0) (xs ys : List X) → All P (xs ++ ys) → All P xs
all_left P xs ys h = each P xs (λ x c. All-contains P (xs ++ ys) x h (Contains-append_left xs ys x c))

pub all_right : {X : Type 0} (P : X → Type 0) (xs ys : List X) → All P (xs ++ ys) → All P ys
all_right P xs ys h = each P ys (λ x c. All-contains P (xs ++ ys) x h (Contains-append_right xs ys x c))

pub all_of_map : {X Y : Type 0} (P : Y → Type 0) (f : X → Y) (xs : List X) → All P (map f xs) → All (λ x. P (f x)) xs
all_of_map P f xs h = each (λ x. P (f x)) xs (λ x c. All-contains P (map f xs) (f x) h (contains_map f xs x c))

pub contains_at : {X : Type 0} (xs : List X) (i : ℕ) (x : X) → slice_get xs i ≡ Some x → Contains xs x
contains_at xs i x e = (i, slice_get_within xs i x e, get_or_from_slice_get xs i x x e)

pub all_at : {X : Type 0} (P : X → Type 0) (xs : List X) (i : ℕ) (x : X) → All P xs → slice_get xs i ≡ Some x → P x
all_at P xs i x all e = All-contains P xs x all (contains_at xs i x e)

-- an option of which a fact holds has a value
pub some_and : {T : Type 0} (o : Option T) (P : T → Type 0) → IsSomeAnd o P → (x : T) × (o ≡ Some x) × P x
some_and None P h = absurd h
some_and (Some x) P h = (x, refl, h)

pub some_and_at : {T : Type 0} (o : Option T) (P : T → Type 0) (x : T) → o ≡ Some x → P x → IsSomeAnd o P
some_and_at o P x e h = subst (λ o. IsSomeAnd o P) (sym e) h

pub some_and_map : {T : Type 0} (o : Option T) (P Q : T → Type 0) → ((x : T) → P x → Q x) → IsSomeAnd o P → IsSomeAnd o Q
some_and_map None P Q f h = h
some_and_map (Some x) P Q f h = f x h

pub some_and_both : {T : Type 0} (o : Option T) (P Q R : T → Type 0) → ((x : T) → P x → Q x → R x) → IsSomeAnd o P → IsSomeAnd o Q → IsSomeAnd o R
some_and_both None P Q R f h k = h
some_and_both (Some x) P Q R f h k = f x h k

-- a number is a member or is none
pub has_or_lacks : (w : List ℕ) (v : ℕ) → Contains w v ⊎ (Contains w v → ⊥)
has_or_lacks [] v = inr (contains_none v)
has_or_lacks (x ∷ w) v =
    ⊎_elim
    (λ e. inl (subst (Contains (x ∷ w)) e (contains_here x w)))
    (λ ne. ⊎_elim
    (λ c. inl (contains_there x w v c))
    (λ lacks. inr (λ c. ⊎_elim ne lacks (contains_cases x w v c)))
    (has_or_lacks w v))
    (cases_eq x v)

-- where not all are members, some number is none
pub some_lacked : (vs w : List ℕ) → (IsWithin vs w → ⊥) → Any (λ v. ¬ Contains w v) vs
some_lacked [] w h = absurd (h (All-nil (Contains w)))
some_lacked (v ∷ vs) w h =
    ⊎_elim
    (λ c. let r = some_lacked vs w (λ i. h (All-cons (Contains w) v vs c i)) in (suc r.0, r.1, omega arith, r.3, r.4))
    (λ lacks. (0, v, omega arith, refl, lacks))
    (has_or_lacks w v)

pub within_cons : (v : ℕ) (S T : List ℕ) → IsWithin S T → IsWithin (v ∷ S) (v ∷ T)
within_cons v S T i =
    each (Contains (v ∷ T)) (v ∷ S) (λ n c. ⊎_elim (λ e. subst (Contains (v ∷ T)) e (contains_here v T)) (λ h. contains_there v T n (All-contains (Contains T) S n i h)) (contains_cases v S n c))

pub within_first : (v : ℕ) (S : List ℕ) → IsWithin (v ∷ []) (v ∷ S)
within_first v S = All-cons (Contains (v ∷ S)) v [] (contains_here v S) (All-nil (Contains (v ∷ S)))

-- a list with no member twice stays so where a new one is added
pub distinct_push : {X : Type 0} (xs : List X) (x : X) → AllPairs (λ x y. x ≢ y) xs → (Contains xs x → ⊥) → AllPairs (λ x y. x ≢ y) (xs ++ x ∷ [])
distinct_push xs x pairs lacks = all_pairs_push (λ x y. x ≢ y) xs x pairs (λ k d lt e. lacks (subst (Contains xs) e (Contains-get_or xs k d lt)))
