-- The values of loops, by their numbers.
use Rattle.std.proofs.Common.{◌≡◌, ℕ, zero, suc, ◌+◌, ◌-◌, List, [], ◌∷◌, ◌++◌, length, Some, refl, sym, ap, ◌∙◌, subst, arith, length-append, Bor}
use Rattle.std.specs.Prelude.{slice_get}
use Rattle.priz_frac.specs.Ratio.{Ratio}
use Rattle.proof_term.specs.declared.locals.Locals.{Locals}
use Rattle.proof_term.specs.declared.locals.Locals.TheVariants as variants
use Rattle.proof_term.specs.declared.locals.Locals.TheOpen.{Locals-F}
use Rattle.proof_term.specs.declared.locals.Locals.TheFolds.{fold-roll-Locals}
use Rattle.proof_term.specs.steps.LocalValues.{value_inside, local_values}

-- the values inside one more loop
pub inside_values : (v : Ratio) (around : Bor Locals) → local_values (variants.Inside v around) ≡ local_values around.now ++ v ∷ []
inside_values v around = ap local_values (sym (variants.rolls-Inside v around)) ∙ fold-roll-Locals (List Ratio) value_inside (Locals-F.Inside v around)

kept_place : (xs ys : List Ratio) (j : ℕ) (v : Ratio) → slice_get xs j ≡ Some v → slice_get (xs ++ ys) j ≡ Some v
kept_place [] ys j v e = absurd (cc)
kept_place (x ∷ xs) ys zero v e = e
kept_place (x ∷ xs) ys (suc j) v e = kept_place xs ys j v e

last_place : (xs : List Ratio) (v : Ratio) → slice_get (xs ++ v ∷ []) (length xs) ≡ Some v
last_place [] v = refl
last_place (x ∷ xs) v = last_place xs v

module _ (locals : Locals) (value : Ratio) (around : Bor Locals) (is : locals ≡ variants.Inside value around) where
  pub values_are : local_values locals ≡ local_values around.now ++ value ∷ []
  values_are = ap local_values is ∙ inside_values value around

  -- a value further out
  pub found_around : (j : ℕ) (v : Ratio) → slice_get (local_values around.now) j ≡ Some v → slice_get (local_values locals) j ≡ Some v
  found_around j v e = ap (λ xs. slice_get xs j) values_are ∙ kept_place (local_values around.now) (value ∷ []) j v e

  -- the innermost value
  pub found_here : (j k : ℕ) → length (local_values around.now) + k ≡ j → k ≡ 0 → slice_get (local_values locals) j ≡ Some value
  found_here j k e none =
      let last : length (local_values around.now) ≡ j = omega (arith, e, none) in
      ap (λ xs. slice_get xs j) values_are ∙ subst (λ k. slice_get (local_values around.now ++ value ∷ []) k ≡ Some value) last (last_place (local_values around.now) value)

  -- a number past all of them
  pub past_all : (j k : ℕ) → length (local_values around.now) + k ≡ j → (k ≡ 0 → ⊥) → length (local_values locals) + (k - 1) ≡ j
  past_all j k e some = omega (arith, e, some, ap length values_are, length-append (local_values around.now) (value ∷ []))
