-- Extents of the first concepts of a file.
use Rattle.std.proofs.Common.{◌≡◌, ℕ, zero, suc, ◌+◌, ◌<◌, ◌≤◌, ◌⊎◌, ⊎_elim, inl, inr, List, [], ◌∷◌, ◌++◌, Option, Some, map, length, refl, sym, ap, ◌∙◌, subst, length-append, arith}
use Rattle.std.specs.Prelude.{slice_get}
use Rattle.std.proofs.lemmas.Option.{slice_get_within, slice_get-map, same_Some, none-some}
use Rattle.utopist_syntax.specs.FileTree.{ConceptTree}
use Rattle.canonical_paths.specs.PathNames.{PathNames}
use Rattle.canonical_paths.proofs.Elements.{get_left, get_right}
use Rattle.path_limits.specs.declared.extent.PathExtent.{PathExtent}
use Rattle.path_limits.specs.Extents.{extent_of}
use Rattle.path_limits.specs.steps.Measured.{AreFirst}

-- a list that has for each element of another one what a function makes of it
same_map : {X Y : Type 0} (f : X → Y) (ys : List Y) (xs : List X) → length ys ≡ length xs → ((n : ℕ) (x : X) → n < length ys → slice_get xs n ≡ Some x → slice_get ys n ≡ Some (f x)) → ys ≡ map f xs
same_map f [] [] e h = refl
same_map f [] (x ∷ xs) e h = absurd (omega (arith, e))
same_map f (y ∷ ys) [] e h = absurd (omega (arith, e))
same_map {X} {Y} f (y ∷ ys) (x ∷ xs) e h =
    ap (λ (z : Y). z ∷ ys) (same_Some y (f x) (h 0 x (omega arith) refl))
    ∙ ap (λ (zs : List Y). f x ∷ zs) (same_map f ys xs (omega (arith, e)) (λ n z w g. h (suc n) z (omega (arith, w)) g))

last_there : {X : Type 0} (xs : List X) (x : X) → slice_get (xs ++ x ∷ []) (length xs) ≡ Some x
last_there {X} xs x =
    let e : length xs ≡ length xs + 0 = omega arith in
    ap (slice_get (xs ++ x ∷ [])) e ∙ get_right xs (x ∷ []) 0

before_or_last : (n m : ℕ) → n < suc m → (n < m) ⊎ (n ≡ m)
before_or_last zero zero h = inr refl
before_or_last zero (suc m) h = inl (omega arith)
before_or_last (suc n) zero h = absurd (omega (arith, h))
before_or_last (suc n) (suc m) h = ⊎_elim (λ g. inl (omega (arith, g))) (λ e. inr (ap suc e)) (before_or_last n m (omega (arith, h)))

module _ (paths : ConceptTree → List PathNames) (all : List ConceptTree) where
  pub none_first : AreFirst paths all []
  none_first = record { count = omega arith; each = λ n c w e. absurd (omega (arith, w)) }

  -- one more concept
  pub one_more_first : (extents : List PathExtent) (c : ConceptTree) (e : PathExtent) → AreFirst paths all extents → slice_get all (length extents) ≡ Some c → e ≡ extent_of (paths c) → AreFirst paths all (extents ++ e ∷ [])
  one_more_first extents c e first is own = record {
    count = let w = slice_get_within all (length extents) c is in let l = length-append extents (e ∷ []) in omega (arith, w, l);
    each = λ n d w g.
        let l = length-append extents (e ∷ []) in
        ⊎_elim
        (λ (h : n < length extents). get_left extents (e ∷ []) n (extent_of (paths d)) (first.each n d h g))
        (λ (h : n ≡ length extents).
        let same : c ≡ d = same_Some c d (sym is ∙ ap (slice_get all) (sym h) ∙ g) in
        ap (slice_get (extents ++ e ∷ [])) h ∙ last_there extents e ∙ ap (λ (x : PathExtent). Some x) (own ∙ ap (λ (x : ConceptTree). extent_of (paths x)) same))
        (before_or_last n (length extents) (omega (arith, w, l)));
  }

  -- all of them
  pub all_first : (extents : List PathExtent) → AreFirst paths all extents → length extents ≡ length all → extents ≡ map (λ c. extent_of (paths c)) all
  all_first extents first e = same_map (λ c. extent_of (paths c)) extents all e first.each
