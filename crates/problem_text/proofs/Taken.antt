-- Texts of two kinds that are joined as one list.
use Rattle.std.proofs.Common.{◌≡◌, ℕ, ◌==◌, Bool, true, false, List, [], ◌∷◌, ◌++◌, length, Result, Ok, Err, ap, ◌∙◌, append-nil, append_assoc}
use Rattle.std.proofs.Math.Dec.{eqb-suc-zero}
use Rattle.std.proofs.Transfers.{starts_with_trans, starts_with_of_append}
use Rattle.std.specs.Prelude.{codes, map, not}
use Rattle.std.specs.List.{join_by, flat_map}
use Rattle.std.proofs.lemmas.Grind.{flat_map-append}
use Rattle.std.proofs.lemmas.List.Folds.{flat_map-map}
use Rattle.priz_base.specs.Printing.{Prints}
use Rattle.utopist_syntax.specs.Round.{if_needed}
use Rattle.problem_text.specs.StatementText.{spaced_list}

-- a text behind another
abbrev behind : List ℕ → List ℕ
behind t = codes ", " ++ t

regroup : (a b s c d e : List ℕ) → (a ++ (b ++ ((s ++ c) ++ d))) ++ e ≡ (a ++ b) ++ (s ++ ((c ++ d) ++ e))
regroup a b s c d e = simp append_assoc

module _ {X Y : Type 0} (f : X → List ℕ) (g : Y → List ℕ) where
  -- of the first kind alone
  first_alone : (x : X) (xs : List X) → spaced_list (map f (x ∷ xs) ++ map g []) ≡ join_by f (codes ", ") (x ∷ xs) ++ codes " "
  first_alone x xs =
      ap (λ t. (f x ++ t) ++ codes " ") (ap (flat_map behind) (append-nil (map f xs)) ∙ flat_map-map behind f xs)

  -- of the second alone
  second_alone : (y : Y) (ys : List Y) → spaced_list (map f [] ++ map g (y ∷ ys)) ≡ join_by g (codes ", ") (y ∷ ys) ++ codes " "
  second_alone y ys = ap (λ t. (g y ++ t) ++ codes " ") (flat_map-map behind g ys)

  all_behind : (xs : List X) (ys : List Y) → flat_map behind (map f xs ++ map g ys) ≡ flat_map (λ x. behind (f x)) xs ++ flat_map (λ y. behind (g y)) ys
  all_behind xs ys =
      flat_map-append behind (map f xs) (map g ys)
      ∙ ap (λ t. t ++ flat_map behind (map g ys)) (flat_map-map behind f xs)
      ∙ ap (λ t. flat_map (λ x. behind (f x)) xs ++ t) (flat_map-map behind g ys)

  -- of both
  both_kinds : (x : X) (xs : List X) (y : Y) (ys : List Y) → spaced_list (map f (x ∷ xs) ++ map g (y ∷ ys)) ≡ join_by f (codes ", ") (x ∷ xs) ++ (codes ", " ++ (join_by g (codes ", ") (y ∷ ys) ++ codes " "))
  both_kinds x xs y ys =
      ap (λ t. (f x ++ t) ++ codes " ") (all_behind xs (y ∷ ys))
      ∙ regroup (f x) (flat_map (λ x. behind (f x)) xs) (codes ", ") (g y) (flat_map (λ y. behind (g y)) ys) (codes " ")

  -- where there are none of the second
  pub without_second : (xs : List X) (ys : List Y) (no_ys no_xs : Bool) → no_ys ≡ (length ys == 0) → no_ys ≡ true → no_xs ≡ (length xs == 0) → spaced_list (map f xs ++ map g ys) ≡ join_by f (codes ", ") xs ++ if_needed (not no_xs) (codes " ")
  without_second [] [] no_ys no_xs a b c = rw c
  without_second (x ∷ xs) [] no_ys no_xs a b c =
      let some : no_xs ≡ false = c ∙ eqb-suc-zero (length xs) in rw some (first_alone x xs)
  without_second xs (y ∷ ys) no_ys no_xs a b c =
      let some = eqb-suc-zero (length ys) in absurd (cc)

  -- where there are some
  pub with_second : (xs : List X) (ys : List Y) (no_ys no_xs : Bool) → no_ys ≡ (length ys == 0) → no_ys ≡ false → no_xs ≡ (length xs == 0) → spaced_list (map f xs ++ map g ys) ≡ join_by f (codes ", ") xs ++ (if_needed (not no_xs) (codes ", ") ++ (join_by g (codes ", ") ys ++ codes " "))
  with_second xs [] no_ys no_xs a b c = absurd (cc)
  with_second [] (y ∷ ys) no_ys no_xs a b c = rw c (second_alone y ys)
  with_second (x ∷ xs) (y ∷ ys) no_ys no_xs a b c =
      let some : no_xs ≡ false = c ∙ eqb-suc-zero (length xs) in rw some (both_kinds x xs y ys)

-- a text was written, and then another one was printed
pub printed_behind : {T E : Type 0} (first second whole old mid new : List ℕ) (r : Result T E) → whole ≡ first ++ second → mid ≡ old ++ first → Prints second r mid new → Prints whole r old new
printed_behind first second whole old mid new (Ok x) is one two = rw (is, two, one) (append_assoc old first second)
printed_behind first second whole old mid new (Err e) is one two =
    starts_with_trans new mid old two (starts_with_of_append mid old first one)

-- four texts were written
pub four_written : (a b c d whole start s t u v : List ℕ) → whole ≡ a ++ (b ++ (c ++ d)) → s ≡ start ++ a → t ≡ s ++ b → u ≡ t ++ c → v ≡ u ++ d → v ≡ start ++ whole
four_written a b c d whole start s t u v is one two three four = rw (is, four, three, two, one) (simp append_assoc)
