-- What an equation that is turned inside out holds.
use Rattle.std.proofs.Common.{◌≡◌, ◌≢◌, ℕ, zero, suc, ◌+◌, Bool, true, false, refl, sym, ap, arith}
use Rattle.std.specs.Prelude.{if◌then◌else◌, ◌==◌}
use Rattle.std.proofs.lemmas.Bool.{eqb-true, eq-eqb}
use Rattle.body_lang.specs.declared.op.Op.{Op}
use Rattle.body_lang.specs.declared.op.Op.TheVariants.{Add, Sub, Mul, Div}
use Rattle.body_lang.specs.BodyTree.{BodyTree, input, neg, op}
use Rattle.body_lang.specs.Equations.{Sides, IsArithmetic, AreArithmetic}
use Rattle.body_lang.specs.Inverse.{left_part, right_part, inwards, solved}
use Rattle.body_lang.specs.Occurrences.{occurrences, occurrences_in}
use Rattle.body_lang.proofs.Arithmetic.{by_form}

-- of two parts in which a variable stands once, it is the second where it isn't the first
pub once_in_second : (a b : ℕ) → a + b ≡ 1 → (a == 1) ≡ false → b ≡ 1
once_in_second zero b h e = omega arith
once_in_second (suc zero) b h e = absurd (cc)
once_in_second (suc (suc a)) b h e = absurd (omega arith)

-- a fact on one of two trees, as a test says
pub either_tree : (P : BodyTree → Type 0) (t : Bool) (x y : BodyTree) → (t ≡ true → P x) → (t ≡ false → P y) → P (if t then x else y)
either_tree P true x y h k = h refl
either_tree P false x y h k = k refl

abbrev one_if : Bool → ℕ
one_if t = if t then 1 else 0

-- the variable of an input in which v stands once
pub own : (i v : ℕ) → occurrences v (input i) ≡ 1 → i ≡ v
own i v = by (i == v) refl
  where
    by : (t : Bool) → (i == v) ≡ t → one_if t ≡ 1 → i ≡ v
    by true e h = eqb-true i v e
    by false e h = absurd (omega arith)

one_own : (v : ℕ) → occurrences v (input v) ≡ 1
one_own v = ap one_if (eq-eqb v v refl)

other_input : (w v : ℕ) → w ≢ v → occurrences w (input v) ≡ 0
other_input w v n = by (v == w) refl
  where
    by : (t : Bool) → (v == w) ≡ t → one_if t ≡ 0
    by true e = absurd (n (sym (eqb-true v w e)))
    by false e = refl

left_arithmetic : (o : Op) (b c : BodyTree) → IsArithmetic b → IsArithmetic c → IsArithmetic (left_part o b c)
left_arithmetic Add b c h k = (k, h)
left_arithmetic Sub b c h k = (k, h)
left_arithmetic Mul b c h k = (k, h)
left_arithmetic Div b c h k = (k, h)

right_arithmetic : (o : Op) (a c : BodyTree) → IsArithmetic a → IsArithmetic c → IsArithmetic (right_part o a c)
right_arithmetic Add a c h k = (k, h)
right_arithmetic Sub a c h k = (h, k)
right_arithmetic Mul a c h k = (k, h)
right_arithmetic Div a c h k = (h, k)

-- both parts have each variable as often as b and c together
left_count : (o : Op) (w : ℕ) (b c : BodyTree) → occurrences w (left_part o b c) ≡ occurrences w b + occurrences w c
left_count Add w b c = omega arith
left_count Sub w b c = omega arith
left_count Mul w b c = omega arith
left_count Div w b c = omega arith

right_count : (o : Op) (w : ℕ) (a c : BodyTree) → occurrences w (right_part o a c) ≡ occurrences w a + occurrences w c
right_count Add w a c = omega arith
right_count Sub w a c = omega arith
right_count Mul w a c = omega arith
right_count Div w a c = omega arith

module _ (v : ℕ) where
  inwards_arithmetic : (t : BodyTree) → IsArithmetic t → (c : BodyTree) → IsArithmetic c → IsArithmetic (inwards v t c)
  inwards_arithmetic =
      by_form (λ t. (c : BodyTree) → IsArithmetic c → IsArithmetic (inwards v t c)) (λ x c k. k) (λ i c k. k)
      (λ a h f c k. f (neg c) k)
      (λ o a b h k f g c l. either_tree IsArithmetic (occurrences v a == 1) _ _
      (λ e. f (left_part o b c) (left_arithmetic o b c k l))
      (λ e. g (right_part o a c) (right_arithmetic o a c h l)))

  -- where v stands in the side t once, v and the answer together have a variable as often as both sides
  abbrev Balances : ℕ → BodyTree → Type 0
  Balances w t =
      occurrences v t ≡ 1 → (c : BodyTree)
      → occurrences w (inwards v t c) + occurrences w (input v) ≡ occurrences w t + occurrences w c

  balanced_input : (w i : ℕ) → Balances w (input i)
  balanced_input w i e c = let g = ap (λ k. occurrences w (input k)) (own i v e) in omega (arith, g)

  balanced_operation : (w : ℕ) (o : Op) (a b : BodyTree) → Balances w a → Balances w b → Balances w (op o a b)
  balanced_operation w o a b f g e c =
      either_tree (λ t. occurrences w t + occurrences w (input v) ≡ occurrences w a + occurrences w b + occurrences w c)
      (occurrences v a == 1) _ _
      (λ d. let k = f (eqb-true _ 1 d) (left_part o b c) in omega (arith, k, left_count o w b c))
      (λ d. let k = g (once_in_second _ _ e d) (right_part o a c) in omega (arith, k, right_count o w a c))

  balanced : (w : ℕ) (t : BodyTree) → IsArithmetic t → Balances w t
  balanced w =
      by_form (Balances w) (λ x e c. absurd (omega arith)) (balanced_input w) (λ a h f e c. f e (neg c))
      (λ o a b h k f g. balanced_operation w o a b f g)

  module _ (e : Sides) (h : AreArithmetic e) (one : occurrences_in v e ≡ 1) where
    -- a fact on the answer, whichever side it starts from
    pub by_side : (P : BodyTree → Type 0) → (occurrences v e.left ≡ 1 → P (inwards v e.left e.right)) → (occurrences v e.right ≡ 1 → P (inwards v e.right e.left)) → P (solved v e)
    by_side P f g =
        either_tree P (occurrences v e.left == 1) _ _ (λ d. f (eqb-true _ 1 d)) (λ d. g (once_in_second _ _ one d))

    pub solved_arithmetic : IsArithmetic (solved v e)
    solved_arithmetic =
        by_side IsArithmetic (λ d. inwards_arithmetic e.left h.0 e.right h.1) (λ d. inwards_arithmetic e.right h.1 e.left h.0)

    solved_count : (w : ℕ) → occurrences w (solved v e) + occurrences w (input v) ≡ occurrences_in w e
    solved_count w =
        by_side (λ t. occurrences w t + occurrences w (input v) ≡ occurrences_in w e)
        (λ d. balanced w e.left h.0 d e.right)
        (λ d. let k = balanced w e.right h.1 d e.left in omega (arith, k))

    pub solved_without : occurrences v (solved v e) ≡ 0
    solved_without = omega (arith, solved_count v, one_own v, one)

    pub solved_keeps : (w : ℕ) → w ≢ v → occurrences w (solved v e) ≡ occurrences_in w e
    solved_keeps w n = omega (arith, solved_count w, other_input w v n)
