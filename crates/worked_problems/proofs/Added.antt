-- Facts of lists that a function makes.
use Rattle.std.proofs.Common.{◌≡◌, ℕ, ◌+◌, ◌<◌, List, [], ◌∷◌, length, get_or, take, map, ap, refl, subst, arith}
use Rattle.std.specs.Prelude.{All}
use Rattle.std.proofs.lemmas.List.{get_or-map, get_or_default, length-map}
use Rattle.std.proofs.lemmas.List.Elements.{All-map, All-get_or, All-more}
use Rattle.statement_set.specs.declared.given.Given.{Given}
use Rattle.statement_set.specs.Worked.{is_given}

-- the variables of what is given by numbers
pub given_numbers : (vs : List ℕ) → map (λ (g : Given). g.var) (map is_given vs) ≡ vs
given_numbers [] = refl
given_numbers (v ∷ vs) = ap (λ ws. v ∷ ws) (given_numbers vs)

module _ {X Y : Type 0} (P : Y → Type 0) (f : X → Y) (xs : List X) where
  -- one that fails
  pub refused_at : (i : ℕ) (d : X) → i < length xs → (P (f (get_or xs i d)) → ⊥) → All P (map f xs) → ⊥
  refused_at i d lt fails all =
      fails (subst P (get_or-map f xs i d (f (get_or xs i d)) lt) (All-get_or P (map f xs) i (f (get_or xs i d)) (omega (arith, length-map xs f, lt)) all))

  -- one more that holds
  pub held_more : (i : ℕ) (d : X) → i < length xs → P (f (get_or xs i d)) → All (λ x. P (f x)) (take i xs) → All (λ x. P (f x)) (take (i + 1) xs)
  held_more i d lt here all =
      let x = get_or xs i d in
      All-more (λ x. P (f x)) xs i x lt all (subst (λ y. P (f y)) (get_or_default xs i d x lt) here)

  pub held_all : All (λ x. P (f x)) xs → All P (map f xs)
  held_all = All-map P f xs
