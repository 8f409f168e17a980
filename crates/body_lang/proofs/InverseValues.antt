-- The value of an equation that is turned inside out.
use Rattle.std.proofs.Common.{◌≡◌, ℕ, zero, suc, List, [], ◌∷◌, Result, Ok, Err, refl, sym, ap, ◌∙◌, subst, arith}
use Rattle.std.specs.Prelude.{All, IfOk, ◌==◌}
use Rattle.std.proofs.lemmas.Bool.{eqb-true}
use Rattle.priz_frac.specs.Ratio.{Ratio}
use Rattle.priz_frac.specs.Arithmetic.{negative_of}
use Rattle.priz_frac.specs.Lowest.{low, IsLowest}
use Rattle.priz_frac.specs.declared.fault.FracFault.{FracFault}
use Rattle.priz_frac.proofs.Unique.{low_same, low-same_iff}
use Rattle.body_lang.specs.declared.op.Op.{Op}
use Rattle.body_lang.specs.declared.op.Op.TheVariants.{Add, Sub, Mul, Div}
use Rattle.body_lang.specs.BodyTree.{BodyTree, input, neg, op}
use Rattle.body_lang.specs.Equations.{Sides, IsArithmetic, AreArithmetic}
use Rattle.body_lang.specs.ExactValue.{NumbersAreFractions, IsFraction, SolvesFor}
use Rattle.body_lang.specs.Inverse.{left_part, right_part, inwards, solved}
use Rattle.body_lang.specs.Keeping.{NumbersHave}
use Rattle.body_lang.specs.Occurrences.{occurrences, occurrences_in}
use Rattle.body_lang.specs.Operation.{operate}
use Rattle.body_lang.specs.Precision.{exactly}
use Rattle.body_lang.specs.Values.{value_at}
use Rattle.body_lang.proofs.Arithmetic.{by_form}
use Rattle.body_lang.proofs.ExactValues.{value_of, negated, operated, value_from}
use Rattle.body_lang.proofs.InverseParts.{once_in_second, either_tree, own, by_side, solved_arithmetic}
use Rattle.body_lang.proofs.LowestValues.{results_are_lowest}
use Rattle.body_lang.proofs.OperationParts.{IsValue, opposite, left_part_is, right_by, right_part_is, negated_part_is}

abbrev IsSomeValue : Result Ratio FracFault → Type 0
IsSomeValue r = (x : Ratio) × IsValue r x

of_negated : (r : Result Ratio FracFault) → IsSomeValue (negated r) → IsSomeValue r
of_negated (Ok x) h = (x, refl)
of_negated (Err e) h = absurd (cc (h.1))

-- the parts of an operation that has a value, and how it is taken of them
record Parts (o : Op) (r s : Result Ratio FracFault) (x : Ratio) : Type 0 where
  left : Ratio
  right : Ratio
  left_is : IsValue r left
  right_is : IsValue s right
  taken : operate exactly o left right ≡ Ok x

parts : (o : Op) (r s : Result Ratio FracFault) (x : Ratio) → IsValue (operated o r s) x → Parts o r s x
parts o (Ok p) (Ok q) x h = record { left = p; right = q; left_is = refl; right_is = refl; taken = h }
parts o (Ok p) (Err e) x h = absurd (cc)
parts o (Err e) s x h = absurd (cc)

module _ (row : List Ratio) where
  left_start : (o : Op) (b c : BodyTree) → IsSomeValue (value_of row (left_part o b c)) → IsSomeValue (value_of row c)
  left_start Add b c h = let p = parts Sub (value_of row c) (value_of row b) h.0 h.1 in (p.left, p.left_is)
  left_start Sub b c h = let p = parts Add (value_of row c) (value_of row b) h.0 h.1 in (p.left, p.left_is)
  left_start Mul b c h = let p = parts Div (value_of row c) (value_of row b) h.0 h.1 in (p.left, p.left_is)
  left_start Div b c h = let p = parts Mul (value_of row c) (value_of row b) h.0 h.1 in (p.left, p.left_is)

  right_start : (o : Op) (a c : BodyTree) → IsSomeValue (value_of row (right_part o a c)) → IsSomeValue (value_of row c)
  right_start Add a c h = let p = parts Sub (value_of row c) (value_of row a) h.0 h.1 in (p.left, p.left_is)
  right_start Sub a c h = let p = parts Sub (value_of row a) (value_of row c) h.0 h.1 in (p.right, p.right_is)
  right_start Mul a c h = let p = parts Div (value_of row c) (value_of row a) h.0 h.1 in (p.left, p.left_is)
  right_start Div a c h = let p = parts Div (value_of row a) (value_of row c) h.0 h.1 in (p.right, p.right_is)

  -- where the answer has a value, so has the side that it starts from
  start : (v : ℕ) (t : BodyTree) → IsArithmetic t → (c : BodyTree) → IsSomeValue (value_of row (inwards v t c)) → IsSomeValue (value_of row c)
  start v =
      by_form (λ t. (c : BodyTree) → IsSomeValue (value_of row (inwards v t c)) → IsSomeValue (value_of row c)) (λ x c k. k) (λ i c k. k)
      (λ a h f c k. of_negated (value_of row c) (f (neg c) k))
      (λ o a b h k f g c. either_tree (λ t. IsSomeValue (value_of row t) → IsSomeValue (value_of row c)) (occurrences v a == 1) _ _
      (λ e l. left_start o b c (f (left_part o b c) l))
      (λ e l. right_start o a c (g (right_part o a c) l)))

  left_value : (o : Op) (b c : BodyTree) (q y l : Ratio) → IsValue (value_of row b) q → IsValue (value_of row c) y → IsValue (value_of row (left_part o b c)) l → operate exactly (opposite o) y q ≡ Ok l
  left_value o b c q y l f g h = by o h
    where
      by : (o : Op) → IsValue (value_of row (left_part o b c)) l → operate exactly (opposite o) y q ≡ Ok l
      by Add h = sym (ap (λ r. operated Sub r (value_of row b)) g ∙ ap (operated Sub (Ok y)) f) ∙ h
      by Sub h = sym (ap (λ r. operated Add r (value_of row b)) g ∙ ap (operated Add (Ok y)) f) ∙ h
      by Mul h = sym (ap (λ r. operated Div r (value_of row b)) g ∙ ap (operated Div (Ok y)) f) ∙ h
      by Div h = sym (ap (λ r. operated Mul r (value_of row b)) g ∙ ap (operated Mul (Ok y)) f) ∙ h

  right_value : (o : Op) (a c : BodyTree) (p y l : Ratio) → IsValue (value_of row a) p → IsValue (value_of row c) y → IsValue (value_of row (right_part o a c)) l → right_by o y p ≡ Ok l
  right_value o a c p y l f g h = by o h
    where
      by : (o : Op) → IsValue (value_of row (right_part o a c)) l → right_by o y p ≡ Ok l
      by Add h = sym (ap (λ r. operated Sub r (value_of row a)) g ∙ ap (operated Sub (Ok y)) f) ∙ h
      by Sub h = sym (ap (λ r. operated Sub r (value_of row c)) f ∙ ap (operated Sub (Ok p)) g) ∙ h
      by Mul h = sym (ap (λ r. operated Div r (value_of row a)) g ∙ ap (operated Div (Ok y)) f) ∙ h
      by Div h = sym (ap (λ r. operated Div r (value_of row c)) f ∙ ap (operated Div (Ok p)) g) ∙ h

positive_result : (o : Op) (x y r : Ratio) → IsFraction x → IsFraction y → operate exactly o x y ≡ Ok r → IsFraction r
positive_result o x y r p q e = (subst (λ s. IfOk s IsLowest) e (results_are_lowest exactly o x y p q)).positive

right_positive : (o : Op) (z x r : Ratio) → IsFraction z → IsFraction x → right_by o z x ≡ Ok r → IsFraction r
right_positive Add z x r p q e = positive_result Sub z x r p q e
right_positive Sub z x r p q e = positive_result Sub x z r q p e
right_positive Mul z x r p q e = positive_result Div z x r p q e
right_positive Div z x r p q e = positive_result Div x z r q p e

positive_at : (row : List Ratio) (i : ℕ) → All IsFraction row → IsFraction (value_at row i)
positive_at [] i h = omega arith
positive_at (v ∷ vs) zero h = h 0 v (omega arith)
positive_at (v ∷ vs) (suc i) h = positive_at vs i (λ k d l. h (suc k) d (omega arith))

same_value : (x y : Ratio) → IsValue (Ok x) y → x ≡ y
same_value x y e = ap value e
  where
    value : Result Ratio FracFault → Ratio
    value (Ok v) = v
    value (Err f) = x

-- the part of a negation that has a value
record Part (r : Result Ratio FracFault) (x : Ratio) : Type 0 where
  inside : Ratio
  inside_is : IsValue r inside
  taken : negative_of inside ≡ x

part : (r : Result Ratio FracFault) (x : Ratio) → IsValue (negated r) x → Part r x
part (Ok p) x h = record { inside = p; inside_is = refl; taken = same_value (negative_of p) x h }
part (Err e) x h = absurd (cc)

module _ (row : List Ratio) (positive : All IsFraction row) where
  abbrev IsPositive : BodyTree → Type 0
  IsPositive b = NumbersHave IsFraction b → (x : Ratio) → IsValue (value_of row b) x → IsFraction x

  positive_negative : (a : BodyTree) → IsPositive a → IsPositive (neg a)
  positive_negative a f n x e =
      let p = part (value_of row a) x e in subst IsFraction p.taken (f n p.inside p.inside_is)

  positive_operation : (o : Op) (a b : BodyTree) → IsPositive a → IsPositive b → IsPositive (op o a b)
  positive_operation o a b f g n x e =
      let p = parts o (value_of row a) (value_of row b) x e in
      positive_result o p.left p.right x (f n.0 p.left p.left_is) (g n.1 p.right p.right_is) p.taken

  value_positive : (b : BodyTree) → IsArithmetic b → IsPositive b
  value_positive =
      by_form IsPositive (λ v n x e. subst IsFraction (same_value v x e) n)
      (λ i n x e. subst IsFraction (same_value (value_at row i) x e) (positive_at row i positive))
      (λ a h f. positive_negative a f) (λ o a b h k f g. positive_operation o a b f g)

  module _ (v : ℕ) where
    -- the value that is found is v's, in some form
    record IsFound (z : Ratio) : Type 0 where
      value : low z ≡ low (value_at row v)
      form : IsFraction z

    -- it is found inside the side t, whose value agrees with that of c
    abbrev IsFoundIn : BodyTree → Type 0
    IsFoundIn t =
        NumbersHave IsFraction t → occurrences v t ≡ 1 → (c : BodyTree) (x y z : Ratio)
        → IsValue (value_of row t) x → IsValue (value_of row c) y → IsFraction y → low x ≡ low y
        → IsValue (value_of row (inwards v t c)) z → IsFound z

    found_variable : (i : ℕ) → IsFoundIn (input i)
    found_variable i n e c x y z f g p d k =
        let same : y ≡ z = same_value y z (sym g ∙ k) in
        record {
          value = ap low (sym same) ∙ sym d ∙ ap low (sym (same_value (value_at row i) x f)) ∙ ap (λ j. low (value_at row j)) (own i v e);
          form = subst IsFraction same p;
        }

    found_negative : (a : BodyTree) → IsArithmetic a → IsFoundIn a → IsFoundIn (neg a)
    found_negative a h find n e c x y z f g p d k =
        let q = part (value_of row a) x f in
        find n e (neg c) q.inside (negative_of y) z q.inside_is (ap negated g) p
        (negated_part_is q.inside y (value_positive a h n q.inside q.inside_is) p (ap low q.taken ∙ d)) k

    found_operation : (o : Op) (a b : BodyTree) → IsArithmetic a → IsArithmetic b → IsFoundIn a → IsFoundIn b → IsFoundIn (op o a b)
    found_operation o a b h j left right n e c x y z f g p d k =
        let q = parts o (value_of row a) (value_of row b) x f in
        let of_left = value_positive a h n.0 q.left q.left_is in
        let of_right = value_positive b j n.1 q.right q.right_is in
        either_tree (λ t. IsValue (value_of row t) z → IsFound z) (occurrences v a == 1) _ _
        (λ once l.
        let s = start row v a h (left_part o b c) (z, l) in
        let taken = left_value row o b c q.right y s.0 q.right_is g s.1 in
        left n.0 (eqb-true _ 1 once) (left_part o b c) q.left s.0 z q.left_is s.1
        (positive_result (opposite o) y q.right s.0 p of_right taken)
        (left_part_is o q.left q.right x y s.0 of_left of_right p q.taken d taken) l)
        (λ other l.
        let s = start row v b j (right_part o a c) (z, l) in
        let taken = right_value row o a c q.left y s.0 q.left_is g s.1 in
        right n.1 (once_in_second _ _ e other) (right_part o a c) q.right s.0 z q.right_is s.1
        (right_positive o y q.left s.0 p of_left taken)
        (right_part_is o q.left q.right x y s.0 of_left of_right p q.taken d taken) l)
        k

    found : (t : BodyTree) → IsArithmetic t → IsFoundIn t
    found =
        by_form IsFoundIn (λ r n e c x y z f g p d k. absurd (omega arith)) found_variable found_negative found_operation

-- in each row, the equation solved for v has v's value
pub solved_solves : (v : ℕ) (e : Sides) → AreArithmetic e → NumbersAreFractions e → occurrences_in v e ≡ 1 → SolvesFor e v (solved v e)
solved_solves v e h n one row positive x y z f g same k =
    let of_left = value_from row e.left x h.0 f in
    let of_right = value_from row e.right y h.1 g in
    let left_form = value_positive row positive e.left h.0 n.0 x of_left in
    let right_form = value_positive row positive e.right h.1 n.1 y of_right in
    let lows : low x ≡ low y = low_same x y left_form right_form same in
    let answer = value_from row (solved v e) z (solved_arithmetic v e h one) k in
    let it = by_side v e h one (λ t. IsValue (value_of row t) z → IsFound row positive v z)
    (λ d l. found row positive v e.left h.0 n.0 d e.right x y z of_left of_right right_form lows l)
    (λ d l. found row positive v e.right h.1 n.1 d e.left y x z of_right of_left left_form (sym lows) l)
    answer in
    (low-same_iff z (value_at row v) it.form (positive_at row v positive)).1 it.value
