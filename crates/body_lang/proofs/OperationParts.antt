-- The parts of an operation, from its result and the other part.
use Rattle.std.proofs.Common.{◌≡◌, ◌≢◌, ℤ, pos, Bool, true, false, Result, Ok, Err, refl, sym, ap, ◌∙◌, subst}
use Rattle.std.specs.Prelude.{if◌then◌else◌, ⊤}
use Rattle.std.specs.Ordering.{int_eq}
use Rattle.std.proofs.Math.Nat.{mul-pos}
use Rattle.priz_frac.specs.Ratio.{Ratio}
use Rattle.priz_frac.specs.Arithmetic.{sum_of, difference_of, product_of, quotient_of, negative_of, inverse_of}
use Rattle.priz_frac.specs.Lowest.{low}
use Rattle.priz_frac.specs.declared.fault.FracFault.{FracFault}
use Rattle.priz_frac.specs.declared.fault.FracFault.TheVariants.{ZeroDivisor}
use Rattle.priz_frac.proofs.Lowest.{low_is_lowest, low-lowest}
use Rattle.priz_frac.proofs.Operations.{low-sum, low-difference, low-product, low-quotient, low-negative, quotient_is_product, inverse_den}
use Rattle.priz_frac.proofs.Undone.{sum_comm, product_comm, low-sum_difference, low-difference_sum, low-product_quotient, low-quotient_product, low-negative_negative}
use Rattle.body_lang.specs.declared.op.Op.{Op}
use Rattle.body_lang.specs.declared.op.Op.TheVariants.{Add, Sub, Mul, Div}
use Rattle.body_lang.specs.ExactValue.{IsFraction}
use Rattle.body_lang.specs.Precision.{exactly}
use Rattle.body_lang.specs.Operation.{operate}

-- two operations, each of which undoes the other, where the second part is one that can be undone
record AreUndone (f g : Ratio → Ratio → Ratio) (Fit : Ratio → Type 0) : Type 0 where
  comm : (x y : Ratio) → f x y ≡ f y x
  back : (x y : Ratio) → IsFraction x → IsFraction y → Fit y → low (g (f x y) y) ≡ low x
  forth : (x y : Ratio) → IsFraction x → IsFraction y → Fit y → low (f (g x y) y) ≡ low x
  by_low : (x y : Ratio) → IsFraction x → IsFraction y → low (f (low x) (low y)) ≡ low (f x y)
  by_low_too : (x y : Ratio) → IsFraction x → IsFraction y → Fit y → low (g (low x) (low y)) ≡ low (g x y)
  kept : (x y : Ratio) → IsFraction x → IsFraction y → IsFraction (f x y)
  kept_too : (x y : Ratio) → IsFraction x → IsFraction y → Fit y → IsFraction (g x y)

module _ (f g : Ratio → Ratio → Ratio) (Fit : Ratio → Type 0) (u : AreUndone f g Fit) where
  -- both depend on the lowest terms of their first part
  first_low : (x y z : Ratio) → IsFraction x → IsFraction y → IsFraction z → low x ≡ low y → low (f x z) ≡ low (f y z)
  first_low x y z p q r e = sym (u.by_low x z p r) ∙ ap (λ (w : Ratio). low (f w (low z))) e ∙ u.by_low y z q r

  first_low_too : (x y z : Ratio) → IsFraction x → IsFraction y → IsFraction z → Fit z → low x ≡ low y → low (g x z) ≡ low (g y z)
  first_low_too x y z p q r n e = sym (u.by_low_too x z p r n) ∙ ap (λ (w : Ratio). low (g w (low z))) e ∙ u.by_low_too y z q r n

  -- from x + y = z comes x = z - y
  first_of_sum : (x y z : Ratio) → IsFraction x → IsFraction y → IsFraction z → Fit y → low (f x y) ≡ low z → low x ≡ low (g z y)
  first_of_sum x y z p q r n e = sym (u.back x y p q n) ∙ first_low_too (f x y) z y (u.kept x y p q) r q n e

  -- from x + y = z comes y = z - x
  second_of_sum : (x y z : Ratio) → IsFraction x → IsFraction y → IsFraction z → Fit x → low (f x y) ≡ low z → low y ≡ low (g z x)
  second_of_sum x y z p q r n e = first_of_sum y x z q p r n (ap low (u.comm y x) ∙ e)

  -- from x - y = z comes x = z + y
  first_of_difference : (x y z : Ratio) → IsFraction x → IsFraction y → IsFraction z → Fit y → low (g x y) ≡ low z → low x ≡ low (f z y)
  first_of_difference x y z p q r n e = sym (u.forth x y p q n) ∙ first_low (g x y) z y (u.kept_too x y p q n) r q e

  -- from x - y = z comes y = x - z
  second_of_difference : (x y z : Ratio) → IsFraction x → IsFraction y → IsFraction z → Fit y → Fit z → low (g x y) ≡ low z → low y ≡ low (g x z)
  second_of_difference x y z p q r n m e =
      first_of_sum y z x q r p m (ap low (u.comm y z) ∙ sym (first_of_difference x y z p q r n e))

sums_are_undone : AreUndone sum_of difference_of (λ (y : Ratio). ⊤)
sums_are_undone = record {
  comm = sum_comm;
  back = λ x y p q n. low-sum_difference x y p q;
  forth = λ x y p q n. low-difference_sum x y p q;
  by_low = low-sum;
  by_low_too = λ x y p q n. low-difference x y p q;
  kept = λ x y p q. mul-pos {m = x.den} {n = y.den} p q;
  kept_too = λ x y p q n. mul-pos {m = x.den} {n = y.den} p q;
}

quotient_is_positive : (x y : Ratio) → IsFraction x → y.num ≢ pos 0 → IsFraction (quotient_of x y)
quotient_is_positive x y p n =
    subst IsFraction (sym (quotient_is_product x y p)) (mul-pos {m = x.den} {n = (inverse_of y).den} p (inverse_den y n))

products_are_undone : AreUndone product_of quotient_of (λ (y : Ratio). y.num ≢ pos 0)
products_are_undone = record {
  comm = product_comm;
  back = low-product_quotient;
  forth = low-quotient_product;
  by_low = low-product;
  by_low_too = low-quotient;
  kept = λ x y p q. mul-pos {m = x.den} {n = y.den} p q;
  kept_too = λ x y p q n. quotient_is_positive x y p n;
}

abbrev pub IsValue : Result Ratio FracFault → Ratio → Type 0
IsValue r x = r ≡ Ok x

low_low : (w : Ratio) → IsFraction w → low (low w) ≡ low w
low_low w p = low-lowest (low w) (low_is_lowest w p)

-- where a result agrees with z, so do the terms that it was taken of
agrees : (w x z : Ratio) → IsFraction w → IsValue (Ok (low w)) x → low x ≡ low z → low w ≡ low z
agrees w x z p e h = sym (low_low w p) ∙ ap value e ∙ h
  where
    value : Result Ratio FracFault → Ratio
    value (Ok v) = low v
    value (Err f) = w

result : (w x : Ratio) → IsFraction w → IsValue (Ok (low w)) x → low w ≡ low x
result w x p e = agrees w x x p e refl

not_zero : (z : ℤ) → int_eq z (pos 0) ≡ false → z ≢ pos 0
not_zero z e h = absurd (false_is_true (sym e ∙ ap (λ (y : ℤ). int_eq y (pos 0)) h))
  where
    false_is_true : false ≡ true → ⊥
    false_is_true d = cc

record Divided (y w x : Ratio) : Type 0 where
  apart : y.num ≢ pos 0
  value : IsValue (Ok (low w)) x

divided : (y w x : Ratio) → IsValue (if int_eq y.num (pos 0) then Err ZeroDivisor else Ok (low w)) x → Divided y w x
divided y w x h = by (int_eq y.num (pos 0)) refl h
  where
    by : (b : Bool) → int_eq y.num (pos 0) ≡ b → IsValue (if b then Err ZeroDivisor else Ok (low w)) x → Divided y w x
    by true e h = absurd (cc)
    by false e h = record { apart = not_zero y.num e; value = h }

-- what undoes the operator for its left part
abbrev pub opposite : Op → Op
opposite Add = Sub
opposite Sub = Add
opposite Mul = Div
opposite Div = Mul

-- the left part, from the result, which agrees with z, and the right part
pub left_part_is : (o : Op) (x y r z l : Ratio) → IsFraction x → IsFraction y → IsFraction z → operate exactly o x y ≡ Ok r → low r ≡ low z → operate exactly (opposite o) z y ≡ Ok l → low x ≡ low l
left_part_is Add x y r z l p q s e h d =
    let k = mul-pos {m = x.den} {n = y.den} p q in
    let j = mul-pos {m = z.den} {n = y.den} s q in
    first_of_sum _ _ _ sums_are_undone x y z p q s tt (agrees (sum_of x y) r z k e h) ∙ result (difference_of z y) l j d
left_part_is Sub x y r z l p q s e h d =
    let k = mul-pos {m = x.den} {n = y.den} p q in
    let j = mul-pos {m = z.den} {n = y.den} s q in
    first_of_difference _ _ _ sums_are_undone x y z p q s tt (agrees (difference_of x y) r z k e h) ∙ result (sum_of z y) l j d
left_part_is Mul x y r z l p q s e h d =
    let k = mul-pos {m = x.den} {n = y.den} p q in
    let b = divided y (quotient_of z y) l d in
    first_of_sum _ _ _ products_are_undone x y z p q s b.apart (agrees (product_of x y) r z k e h)
    ∙ result (quotient_of z y) l (quotient_is_positive z y s b.apart) b.value
left_part_is Div x y r z l p q s e h d =
    let b = divided y (quotient_of x y) r e in
    let j = mul-pos {m = z.den} {n = y.den} s q in
    first_of_difference _ _ _ products_are_undone x y z p q s b.apart (agrees (quotient_of x y) r z (quotient_is_positive x y p b.apart) b.value h)
    ∙ result (product_of z y) l j d

-- what undoes the operator for its right part, from the result z and the left part x
abbrev pub right_by : Op → Ratio → Ratio → Result Ratio FracFault
right_by Add z x = operate exactly Sub z x
right_by Sub z x = operate exactly Sub x z
right_by Mul z x = operate exactly Div z x
right_by Div z x = operate exactly Div x z

pub right_part_is : (o : Op) (x y r z l : Ratio) → IsFraction x → IsFraction y → IsFraction z → operate exactly o x y ≡ Ok r → low r ≡ low z → right_by o z x ≡ Ok l → low y ≡ low l
right_part_is Add x y r z l p q s e h d =
    let k = mul-pos {m = x.den} {n = y.den} p q in
    let j = mul-pos {m = z.den} {n = x.den} s p in
    second_of_sum _ _ _ sums_are_undone x y z p q s tt (agrees (sum_of x y) r z k e h) ∙ result (difference_of z x) l j d
right_part_is Sub x y r z l p q s e h d =
    let k = mul-pos {m = x.den} {n = y.den} p q in
    let j = mul-pos {m = x.den} {n = z.den} p s in
    second_of_difference _ _ _ sums_are_undone x y z p q s tt tt (agrees (difference_of x y) r z k e h) ∙ result (difference_of x z) l j d
right_part_is Mul x y r z l p q s e h d =
    let k = mul-pos {m = x.den} {n = y.den} p q in
    let b = divided x (quotient_of z x) l d in
    second_of_sum _ _ _ products_are_undone x y z p q s b.apart (agrees (product_of x y) r z k e h)
    ∙ result (quotient_of z x) l (quotient_is_positive z x s b.apart) b.value
right_part_is Div x y r z l p q s e h d =
    let a = divided y (quotient_of x y) r e in
    let b = divided z (quotient_of x z) l d in
    second_of_difference _ _ _ products_are_undone x y z p q s a.apart b.apart (agrees (quotient_of x y) r z (quotient_is_positive x y p a.apart) a.value h)
    ∙ result (quotient_of x z) l (quotient_is_positive x z p b.apart) b.value

-- the negated part
pub negated_part_is : (x z : Ratio) → IsFraction x → IsFraction z → low (negative_of x) ≡ low z → low x ≡ low (negative_of z)
negated_part_is x z p q e =
    sym (low-negative_negative x) ∙ sym (low-negative (negative_of x) p) ∙ ap (λ (w : Ratio). low (negative_of w)) e ∙ low-negative z q
