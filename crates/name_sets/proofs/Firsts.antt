-- The first place at which a test passes.
use Rattle.std.proofs.Common.{◌≡◌, ℕ, suc, ◌+◌, ⊎_elim, Bool, true, false, cond, ◌||◌, is_some, List, [], ◌∷◌, ◌++◌, length, nat_eq, nat_lt, Option, None, Some, refl, sym, ap, ◌∙◌, subst, arith, position}
use Rattle.std.specs.Prelude.{All, map}
use Rattle.std.proofs.lemmas.List.Elements.{All-head, All-tail}
use Rattle.std.specs.List.{position_or_len, list_any}
use Rattle.std.specs.Option.{option_map}
use Rattle.std.proofs.lemmas.Bool.{cases_lt, cases_eq, lt-ltb, le-ltb, ne_eqb}
use Rattle.std.proofs.lemmas.Bool.Decides.{Decides-eqb}

module _ {X : Type 0} (p : X → Bool) where
  -- by recursion
  abbrev pub first : List X → Option ℕ
  first [] = None
  first (x ∷ xs) = cond (p x) (Some 0) (option_map (λ i. 1 + i) (first xs))

  later :
      (a l : ℕ) → cond (nat_lt (1 + a) (suc l)) (Some (1 + a)) None
      ≡ option_map (λ i. 1 + i) (cond (nat_lt a l) (Some a) None)
  later a l =
      ⊎_elim
      (λ lt. rw (lt-ltb a l lt, lt-ltb (1 + a) (suc l) (omega arith)) refl)
      (λ le. rw (le-ltb a l le, le-ltb (1 + a) (suc l) (omega arith)) refl)
      (cases_lt a l)

  pub position_first : (xs : List X) → position p xs ≡ first xs
  position_first [] = refl
  position_first (x ∷ xs) = by (position_first xs) (p x) refl
    where
      by :
          position p xs ≡ first xs → (b : Bool) → p x ≡ b
          → position p (x ∷ xs) ≡ cond (p x) (Some 0) (option_map (λ i. 1 + i) (first xs))
      by rest true e = rw (e, lt-ltb 0 (suc (length xs)) (omega arith)) refl
      by rest false e = rw e (later (position_or_len p xs) (length xs) ∙ ap (option_map (λ i. 1 + i)) rest)

  first_kept : (xs : List X) (y : X) (i : ℕ) → first xs ≡ Some i → first (xs ++ y ∷ []) ≡ Some i
  first_kept [] y i e = cc
  first_kept (x ∷ xs) y i e = by (first_kept xs y) (p x) refl (first xs) refl
    where
      by :
          ((j : ℕ) → first xs ≡ Some j → first (xs ++ y ∷ []) ≡ Some j) → (b : Bool) → p x ≡ b
          → (o : Option ℕ) → first xs ≡ o
          → cond (p x) (Some 0) (option_map (λ i. 1 + i) (first (xs ++ y ∷ []))) ≡ Some i
      by rest true px o f = let there = rw px at e in rw px there
      by rest false px None f = let wrong = rw (px, f) at e in absurd (cc)
      by rest false px (Some j) f = let there = rw (px, f) at e in rw (px, rest j f) there

  first_passed : (xs : List X) (y : X) → p y ≡ false → first (xs ++ y ∷ []) ≡ first xs
  first_passed [] y e = rw e refl
  first_passed (x ∷ xs) y e =
      ap (λ o. cond (p x) (Some 0) (option_map (λ i. 1 + i) o)) (first_passed xs y e)

  first_new :
      (xs : List X) (y : X) → p y ≡ true → first xs ≡ None → first (xs ++ y ∷ []) ≡ Some (length xs)
  first_new [] y e none = rw e refl
  first_new (x ∷ xs) y e none = by (first_new xs y e) (p x) refl (first xs) refl
    where
      by :
          (first xs ≡ None → first (xs ++ y ∷ []) ≡ Some (length xs)) → (b : Bool) → p x ≡ b
          → (o : Option ℕ) → first xs ≡ o
          → cond (p x) (Some 0) (option_map (λ i. 1 + i) (first (xs ++ y ∷ [])))
          ≡ Some (suc (length xs))
      by rest true px o f = let wrong = rw px at none in absurd (cc)
      by rest false px None f = rw (px, rest f) (ap Some (omega arith))
      by rest false px (Some j) f = let wrong = rw (px, f) at none in absurd (cc)

  pub position_kept :
      (xs : List X) (y : X) (i : ℕ) → position p xs ≡ Some i → position p (xs ++ y ∷ []) ≡ Some i
  position_kept xs y i e =
      position_first (xs ++ y ∷ []) ∙ first_kept xs y i (sym (position_first xs) ∙ e)

  pub position_passed :
      (xs : List X) (y : X) → p y ≡ false → position p (xs ++ y ∷ []) ≡ position p xs
  position_passed xs y e =
      position_first (xs ++ y ∷ []) ∙ first_passed xs y e ∙ sym (position_first xs)

  pub position_new :
      (xs : List X) (y : X) → p y ≡ true → position p xs ≡ None
      → position p (xs ++ y ∷ []) ≡ Some (length xs)
  position_new xs y e none =
      position_first (xs ++ y ∷ []) ∙ first_new xs y e (sym (position_first xs) ∙ none)

  first_some : (xs : List X) → is_some (first xs) ≡ list_any p xs
  first_some [] = refl
  first_some (x ∷ xs) = by (first_some xs) (p x) (first xs) refl
    where
      by :
          is_some (first xs) ≡ list_any p xs → (b : Bool) (o : Option ℕ) → first xs ≡ o
          → is_some (cond b (Some 0) (option_map (λ i. 1 + i) (first xs))) ≡ (b || list_any p xs)
      by rest true o f = refl
      by rest false None f = let none = rw f at rest in rw f none
      by rest false (Some i) f = let some = rw f at rest in rw f some

  -- there is a place exactly where some element passes
  pub position_some : (xs : List X) → is_some (position p xs) ≡ list_any p xs
  position_some xs = ap is_some (position_first xs) ∙ first_some xs

-- tests that agree pass first at one place
first_map :
    {X Y : Type 0} (p : X → Bool) (q : Y → Bool) (f : X → Y) (P : X → Type 0)
    → ((x : X) → P x → p x ≡ q (f x)) → (xs : List X) → All P xs → first p xs ≡ first q (map f xs)
first_map p q f P agree [] all = refl
first_map p q f P agree (x ∷ xs) all =
    ap (λ b. cond b (Some 0) (option_map (λ i. 1 + i) (first p xs))) (agree x (All-head P x xs all))
    ∙ ap (λ o. cond (q (f x)) (Some 0) (option_map (λ i. 1 + i) o)) (first_map p q f P agree xs (All-tail P x xs all))

pub position_map :
    {X Y : Type 0} (p : X → Bool) (q : Y → Bool) (f : X → Y) (P : X → Type 0)
    → ((x : X) → P x → p x ≡ q (f x)) → (xs : List X) → All P xs
    → position p xs ≡ position q (map f xs)
position_map p q f P agree xs all =
    position_first p xs ∙ first_map p q f P agree xs all ∙ sym (position_first q (map f xs))

-- the first place of each number, where one more goes last
module _ (F : ℕ → Option ℕ) (xs : List ℕ) (x : ℕ) (was : (n : ℕ) → F n ≡ position (nat_eq n) xs)
  where
    others : (n : ℕ) → (x ≡ n → ⊥) → position (nat_eq n) (xs ++ x ∷ []) ≡ F n
    others n apart = position_passed (nat_eq n) xs x (ne_eqb n x (λ e. apart (sym e))) ∙ sym (was n)

    pub places_new :
        (G : ℕ → Option ℕ) → F x ≡ None → G x ≡ Some (length xs)
        → ((n : ℕ) → nat_eq x n ≡ false → G n ≡ F n) → (n : ℕ)
        → G n ≡ position (nat_eq n) (xs ++ x ∷ [])
    places_new G none here same n =
        ⊎_elim
        (λ e. subst (λ m. G m ≡ position (nat_eq m) (xs ++ x ∷ [])) e (here ∙ sym (position_new (nat_eq x) xs x ((Decides-eqb x x).1 refl) (sym (was x) ∙ none))))
        (λ apart. same n (ne_eqb x n apart) ∙ sym (others n apart))
        (cases_eq x n)

    pub places_known : (i : ℕ) → F x ≡ Some i → (n : ℕ) → F n ≡ position (nat_eq n) (xs ++ x ∷ [])
    places_known i some n =
        ⊎_elim
        (λ e. subst (λ m. F m ≡ position (nat_eq m) (xs ++ x ∷ [])) e (some ∙ sym (position_kept (nat_eq x) xs x i (sym (was x) ∙ some))))
        (λ apart. sym (others n apart))
        (cases_eq x n)
