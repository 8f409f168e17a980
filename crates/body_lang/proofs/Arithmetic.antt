-- Induction over arithmetic.
use Rattle.std.proofs.Common.{ℕ}
use Rattle.priz_frac.specs.Ratio.{Ratio}
use Rattle.priz_frac.specs.Narrow.{IsNarrow}
use Rattle.body_lang.specs.declared.op.Op.{Op}
use Rattle.body_lang.specs.BodyTree.{BodyTree, num, input, local, neg, op, choice, total, product, iterate, call}
use Rattle.body_lang.specs.Equations.{Sides, IsArithmetic, AreArithmetic}
use Rattle.body_lang.specs.ExactValue.{IsFraction, NumbersAreFractions}
use Rattle.body_lang.specs.Keeping.{NumbersHave}

module _ (P : BodyTree → Type 0) (number : (x : Ratio) → P (num x)) (variable : (i : ℕ) → P (input i)) (negative : (a : BodyTree) → IsArithmetic a → P a → P (neg a)) (operation : (o : Op) (a b : BodyTree) → IsArithmetic a → IsArithmetic b → P a → P b → P (op o a b)) where
  -- what holds of numbers and variables, and is kept by minus signs and operators, holds of arithmetic
  pub by_form : (t : BodyTree) → IsArithmetic t → P t
  by_form (num x) h = number x
  by_form (input i) h = variable i
  by_form (neg a) h = negative a h (by_form a h)
  by_form (op o a b) h = operation o a b h.0 h.1 (by_form a h.0) (by_form b h.1)
  by_form (local j) h = absurd h
  by_form (choice c a b p q) h = absurd h
  by_form (total a b e) h = absurd h
  by_form (product a b e) h = absurd h
  by_form (iterate a b e) h = absurd h
  by_form (call k out args) h = absurd h

-- numbers that fit are fractions
narrow_fractions : (t : BodyTree) → IsArithmetic t → NumbersHave IsNarrow t → NumbersHave IsFraction t
narrow_fractions =
    by_form (λ t. NumbersHave IsNarrow t → NumbersHave IsFraction t) (λ x n. n.lowest.positive) (λ i n. tt)
    (λ a h f n. f n) (λ o a b h k f g n. (f n.0, g n.1))

-- of both sides of an equation
abbrev pub SidesAreNarrow : Sides → Type 0
SidesAreNarrow e = NumbersHave IsNarrow e.left × NumbersHave IsNarrow e.right

pub narrow_sides : (e : Sides) → AreArithmetic e → SidesAreNarrow e → NumbersAreFractions e
narrow_sides e h n = (narrow_fractions e.left h.0 n.0, narrow_fractions e.right h.1 n.1)
