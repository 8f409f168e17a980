-- The inverse of an equation: what it holds, and its value.
use Rattle.std.proofs.Common.{◌≡◌, ◌≢◌, ℕ, Bool, true, false, Option, Some, None, refl, sym, ap, ◌∙◌, subst}
use Rattle.std.specs.Prelude.{if◌then◌else◌, ◌==◌}
use Rattle.std.proofs.lemmas.Bool.{eqb-true}
use Rattle.body_lang.specs.BodyTree.{BodyTree}
use Rattle.body_lang.specs.Equations.{Sides, IsArithmetic, AreArithmetic}
use Rattle.body_lang.specs.ExactValue.{NumbersAreFractions, SolvesFor}
use Rattle.body_lang.specs.Inverse.{solved, inverse}
use Rattle.body_lang.specs.Occurrences.{occurrences, occurrences_in}
use Rattle.body_lang.proofs.InverseParts.{solved_arithmetic, solved_without, solved_keeps}
use Rattle.body_lang.proofs.InverseValues.{solved_solves}

abbrev some : BodyTree → Option BodyTree
some t = Some t

some_tree : (t b : BodyTree) → some t ≡ some b → t ≡ b
some_tree t b e = ap tree e
  where
    tree : Option BodyTree → BodyTree
    tree (Some s) = s
    tree None = t

-- an inverse is the equation solved for a variable that stands in it once
record IsSolved (v : ℕ) (e : Sides) (b : BodyTree) : Type 0 where
  once : occurrences_in v e ≡ 1
  is : solved v e ≡ b

is_solved : (v : ℕ) (e : Sides) (b : BodyTree) → inverse v e ≡ Some b → IsSolved v e b
is_solved v e b = by (occurrences_in v e == 1) refl
  where
    by : (t : Bool) → (occurrences_in v e == 1) ≡ t → (if t then some (solved v e) else None) ≡ some b → IsSolved v e b
    by true d h = record { once = eqb-true _ 1 d; is = some_tree (solved v e) b h }
    by false d h = absurd (cc)

pub inverse_is_arithmetic : (e : Sides) (v : ℕ) (b : BodyTree) → AreArithmetic e → inverse v e ≡ Some b → IsArithmetic b
inverse_is_arithmetic e v b h i = let s = is_solved v e b i in subst IsArithmetic s.is (solved_arithmetic v e h s.once)

pub inverse_without : (e : Sides) (v : ℕ) (b : BodyTree) → AreArithmetic e → inverse v e ≡ Some b → occurrences v b ≡ 0
inverse_without e v b h i = let s = is_solved v e b i in ap (occurrences v) (sym s.is) ∙ solved_without v e h s.once

pub inverse_keeps : (e : Sides) (v w : ℕ) (b : BodyTree) → AreArithmetic e → inverse v e ≡ Some b → w ≢ v → occurrences w b ≡ occurrences_in w e
inverse_keeps e v w b h i n = let s = is_solved v e b i in ap (occurrences w) (sym s.is) ∙ solved_keeps v e h s.once w n

pub inverse_solves : (e : Sides) (v : ℕ) (b : BodyTree) → AreArithmetic e → NumbersAreFractions e → inverse v e ≡ Some b → SolvesFor e v b
inverse_solves e v b h n i = let s = is_solved v e b i in subst (SolvesFor e v) s.is (solved_solves v e h n s.once)
