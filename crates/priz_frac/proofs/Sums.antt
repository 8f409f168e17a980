-- Which factors are left in a sum of fractions in lowest terms.
use Rattle.std.proofs.Common.{◌≡◌, ℕ, suc, ◌+◌, ◌-◌, ◌*◌, ◌/◌, ◌<◌, Bool, ℤ, pos, negsuc, refl, sym, ap, ◌∙◌, subst, arith, inl, inr, ◌⊎◌, ⊎_elim}
use Rattle.std.specs.Prelude.{◌+ℤ◌, ◌*ℤ◌, unsigned_abs, int_lt}
use Rattle.std.specs.Int.{◌∣◌}
use Rattle.std.proofs.Math.Nat.{mul-pos, mul_comm, dvd-add, dvd-sub, dvd-mul_left, dvd-mul_right_of_dvd, mul-div_assoc}
use Rattle.std.proofs.lemmas.Nat.Gcd.{dvd_refl, dvd_trans}
use Rattle.std.proofs.lemmas.Int.{ints, unsigned_abs-mul}
use Rattle.std.proofs.lemmas.Bool.{cases_lt}
use borrow.Author.Differences.{false_is_lt}
use Rattle.priz_frac.specs.Ratio.{Ratio}
use Rattle.priz_frac.specs.Arithmetic.{sum_of}
use Rattle.priz_frac.specs.Gcd.{gcd}
use Rattle.priz_frac.specs.Lowest.{low, signed_as, IsLowest}
use Rattle.priz_frac.specs.Sign.{signed_number, signed_ratio}
use Rattle.priz_frac.proofs.Coprime.{cancel, only_one, coprime_left, gcd-drop, coprime_product}
use Rattle.priz_frac.proofs.Divisors.{gcd_is, gcd_comm, gcd_positive, gcd-lowest, gcd-times_left, gcd-times_right, numerator_positive, quotient_positive}
use Rattle.priz_frac.proofs.Multiples.{multiples, sum_parts, times}
use Rattle.priz_frac.proofs.Unique.{low_same}
use Rattle.priz_frac.proofs.Lowest.{made}

-- the size of a from those of a + b and b
size_first : (a b : ℤ) → (unsigned_abs a ≡ unsigned_abs (a +ℤ b) + unsigned_abs b) ⊎ ((unsigned_abs a ≡ unsigned_abs (a +ℤ b) - unsigned_abs b) ⊎ (unsigned_abs a ≡ unsigned_abs b - unsigned_abs (a +ℤ b)))
size_first (pos a) (pos b) = inr (inl (omega arith))
size_first (negsuc a) (negsuc b) = inr (inl (omega arith))
size_first (pos a) (negsuc b) = ⊎_elim (λ h. inr (inr (omega (arith, ints)))) (λ h. inl (omega (arith, ints))) (cases_lt a (suc b))
size_first (negsuc a) (pos b) = ⊎_elim (λ h. inr (inr (omega (arith, ints)))) (λ h. inl (omega (arith, ints))) (cases_lt (suc a) b)

-- what divides a sum and its second part divides the first
divides_first : (k : ℕ) (a b : ℤ) → k ∣ unsigned_abs (a +ℤ b) → k ∣ unsigned_abs b → k ∣ unsigned_abs a
divides_first k a b h j =
    let found = λ (n : ℕ) (e : unsigned_abs a ≡ n) (d : k ∣ n). subst (λ m. k ∣ m) (sym e) d in
    ⊎_elim (λ e. found _ e (dvd-add k h j)) (⊎_elim (λ e. found _ e (dvd-sub k h j)) (λ e. found _ e (dvd-sub k j h))) (size_first a b)

int_add_comm : (a b : ℤ) → a +ℤ b ≡ b +ℤ a
int_add_comm a b = omega (arith, ints)

sum_coprime : (m n : ℤ) (d p q : ℕ) → gcd (unsigned_abs m) d ≡ 1 → p ∣ d → gcd p q ≡ 1 → gcd (unsigned_abs (m *ℤ pos q +ℤ n *ℤ pos p)) p ≡ 1
sum_coprime m n d p q h i j =
    let t = unsigned_abs (m *ℤ pos q +ℤ n *ℤ pos p) in
    let k = gcd t p in
    let g = gcd_is t p in
    let in_n : k ∣ unsigned_abs (n *ℤ pos p) = subst (λ x. k ∣ x) (sym (unsigned_abs-mul n (pos p))) (dvd_trans k g.1 (dvd-mul_left p (unsigned_abs n))) in
    let in_m : k ∣ unsigned_abs m * q = subst (λ x. k ∣ x) (unsigned_abs-mul m (pos q)) (divides_first k (m *ℤ pos q) (n *ℤ pos p) g.0 in_n) in
    let apart : gcd q k ≡ 1 = gcd_comm q k ∙ coprime_left k p q g.1 j in
    only_one k (unsigned_abs m) d (cancel q k (unsigned_abs m) apart (subst (λ x. k ∣ x) (mul_comm (unsigned_abs m) q) in_m)) (dvd_trans k g.1 i) h

-- the sum has no part in common with the second denominator either
swapped_coprime : (m n : ℤ) (e p q : ℕ) → gcd (unsigned_abs n) e ≡ 1 → q ∣ e → gcd p q ≡ 1 → gcd (unsigned_abs (m *ℤ pos q +ℤ n *ℤ pos p)) q ≡ 1
swapped_coprime m n e p q h i j =
    let c : n *ℤ pos p +ℤ m *ℤ pos q ≡ m *ℤ pos q +ℤ n *ℤ pos p = int_add_comm (n *ℤ pos p) (m *ℤ pos q) in
    subst (λ (z : ℤ). gcd (unsigned_abs z) q ≡ 1) c (sum_coprime n m e q p h i (gcd_comm q p ∙ j))

-- where the denominators have no common divisor, neither have the parts of the sum
pub sum-lowest : (x y : Ratio) → IsLowest x → IsLowest y → gcd x.den y.den ≡ 1 → IsLowest (sum_of x y)
sum-lowest x y p q e = record {
  positive = mul-pos p.positive q.positive;
  coprime =
      coprime_product (unsigned_abs (sum_of x y).num) x.den y.den
      (sum_coprime x.num y.num x.den x.den y.den p.coprime (dvd_refl x.den) e)
      (swapped_coprime x.num y.num y.den x.den y.den q.coprime (dvd_refl y.den) e);
}

scaled_sum : (m n : ℤ) (g p q : ℕ) → (m *ℤ pos (g * q) +ℤ n *ℤ pos (g * p)) *ℤ pos (g * p * q) ≡ (m *ℤ pos q +ℤ n *ℤ pos p) *ℤ pos (g * p * (g * q))
scaled_sum m n g p q =
    let left = times (g * p * q) _ _ (sum_parts m n (g * q) (g * p)) in
    let right = times (g * p * (g * q)) _ _ (sum_parts m n q p) in
    multiples _ _ (g * p * q) (g * p * (g * q)) (omega (arith, left, right))

signed_by_test : (z : ℤ) (n : ℕ) → signed_number (int_lt z (pos 0)) (pos n) ≡ signed_as z n
signed_by_test (pos z) n = ap (λ (b : Bool). signed_number b (pos n)) (sym (false_is_lt (pos z) (pos 0) (omega arith)))
signed_by_test (negsuc z) n = refl

-- a sum over the denominators g · p and g · q, whose quotients p and q have no common divisor
low-sum_over : (m n t : ℤ) (g p q : ℕ) → 0 < g → 0 < p → 0 < q → gcd p q ≡ 1 → gcd (unsigned_abs m) (g * p) ≡ 1 → gcd (unsigned_abs n) (g * q) ≡ 1 → t ≡ m *ℤ pos q +ℤ n *ℤ pos p → low (made (m *ℤ pos (g * q) +ℤ n *ℤ pos (g * p)) (g * p * (g * q))) ≡ made (signed_as t (unsigned_abs t / gcd (unsigned_abs t) g)) (g * p / gcd (unsigned_abs t) g * q)
low-sum_over m n t g p q hg hp hq apart hm hn et =
    let s = m *ℤ pos q +ℤ n *ℤ pos p in
    let a = unsigned_abs t in
    let h = gcd a g in
    let in_d : h ∣ g * p = dvd-mul_right_of_dvd h (gcd_is a g).1 p in
    let left : gcd a p ≡ 1 = subst (λ (z : ℤ). gcd (unsigned_abs z) p ≡ 1) (sym et) (sum_coprime m n (g * p) p q hm (dvd-mul_left p g) apart) in
    let right : gcd a q ≡ 1 = subst (λ (z : ℤ). gcd (unsigned_abs z) q ≡ 1) (sym et) (swapped_coprime m n (g * q) p q hn (dvd-mul_left q g) apart) in
    let whole : g * p * q ≡ p * q * g = omega arith in
    let divisor : gcd a (g * p * q) ≡ h = ap (gcd a) whole ∙ gcd-drop a (p * q) g (coprime_product a p q left right) in
    let wide = mul-pos (mul-pos hg hp) hq in
    low_same (made (m *ℤ pos (g * q) +ℤ n *ℤ pos (g * p)) (g * p * (g * q))) (made s (g * p * q)) (mul-pos (mul-pos hg hp) (mul-pos hg hq)) wide (scaled_sum m n g p q)
    ∙ ap (λ (z : ℤ). low (made z (g * p * q))) (sym et)
    ∙ ap (λ (k : ℕ). made (signed_as t (a / k)) (g * p * q / k)) divisor
    ∙ ap (λ (d : ℕ). made (signed_as t (a / h)) d) (ap (λ (n : ℕ). n / h) (mul_comm (g * p) q) ∙ mul-div_assoc h q in_d ∙ mul_comm q (g * p / h))

low-sum_of : (x y : Ratio) (t : ℤ) → IsLowest x → IsLowest y → t ≡ x.num *ℤ pos (y.den / gcd x.den y.den) +ℤ y.num *ℤ pos (x.den / gcd x.den y.den) → low (sum_of x y) ≡ signed_ratio (int_lt t (pos 0)) (unsigned_abs t / gcd (unsigned_abs t) (gcd x.den y.den)) (x.den / gcd (unsigned_abs t) (gcd x.den y.den) * (y.den / gcd x.den y.den))
low-sum_of x y t lx ly et =
    let g = gcd x.den y.den in
    let p = x.den / g in
    let q = y.den / g in
    let n = unsigned_abs t / gcd (unsigned_abs t) g in
    let h = gcd (unsigned_abs t) g in
    let of_x = gcd-times_left x.den y.den in
    let of_y = gcd-times_right x.den y.den in
    let sum =
    low-sum_over x.num y.num t g p q (gcd_positive x.den y.den ly.positive) (numerator_positive x.den y.den lx.positive) (quotient_positive x.den y.den ly.positive)
    (gcd-lowest x.den y.den ly.positive)
    (subst (λ (d : ℕ). gcd (unsigned_abs x.num) d ≡ 1) (sym of_x) lx.coprime)
    (subst (λ (e : ℕ). gcd (unsigned_abs y.num) e ≡ 1) (sym of_y) ly.coprime)
    et in
    subst (λ (d : ℕ). low (made (x.num *ℤ pos y.den +ℤ y.num *ℤ pos d) (d * y.den)) ≡ made (signed_as t n) (d / h * q)) of_x
    (subst (λ (e : ℕ). low (made (x.num *ℤ pos e +ℤ y.num *ℤ pos (g * p)) (g * p * e)) ≡ made (signed_as t n) (g * p / h * q)) of_y sum)
    ∙ ap (λ (z : ℤ). made z (x.den / h * q)) (sym (signed_by_test t n))

-- the parts of a sum over the common divisor g of the denominators, of which h is left in it
pub sum_by_common : (x y : Ratio) (d e g a h n : ℕ) (t : ℤ) → IsLowest x → IsLowest y → d ≡ x.den → e ≡ y.den → g ≡ gcd x.den y.den → t ≡ x.num *ℤ pos (e / g) +ℤ y.num *ℤ pos (d / g) → a ≡ unsigned_abs t → h ≡ gcd a g → n ≡ a / h → low (sum_of x y) ≡ signed_ratio (int_lt t (pos 0)) n (d / h * (e / g))
sum_by_common x y d e g a h n t lx ly ed ee eg et ea eh en =
    let f : t ≡ x.num *ℤ pos (y.den / gcd x.den y.den) +ℤ y.num *ℤ pos (x.den / gcd x.den y.den) = cc in
    let s = low-sum_of x y t lx ly f in
    cc
