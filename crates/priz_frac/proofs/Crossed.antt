-- The product of two fractions in lowest terms, from what either numerator shares with the other denominator.
use Rattle.std.proofs.Common.{◌≡◌, ℕ, ◌*◌, ◌/◌, sym, ap, ◌∙◌, subst}
use Rattle.std.specs.Prelude.{◌*ℤ◌, unsigned_abs}
use Rattle.std.specs.Int.{◌∣◌}
use Rattle.std.proofs.Math.Nat.{mul-pos, mul_comm, dvd-mul_left}
use Rattle.std.proofs.lemmas.Int.{unsigned_abs-mul}
use Rattle.priz_frac.specs.Ratio.{Ratio}
use Rattle.priz_frac.specs.Arithmetic.{product_of}
use Rattle.priz_frac.specs.Gcd.{gcd}
use Rattle.priz_frac.specs.Lowest.{low, IsLowest}
use Rattle.priz_frac.proofs.Coprime.{coprime_left, coprime_right, coprime_product}
use Rattle.priz_frac.proofs.Divisors.{gcd_comm, gcd-times_left, gcd-times_right}
use Rattle.priz_frac.proofs.Lowest.{made, low-lowest, low_is_lowest, abs-signed_as}
use Rattle.priz_frac.proofs.Operations.{low-product}

low_num_divides : (x : Ratio) → unsigned_abs (low x).num ∣ unsigned_abs x.num
low_num_divides x =
    let n = unsigned_abs x.num in
    let g = gcd n x.den in
    subst (λ a. a ∣ n) (sym (abs-signed_as x.num (n / g))) (subst (λ m. n / g ∣ m) (gcd-times_left n x.den) (dvd-mul_left (n / g) g))

low_den_divides : (x : Ratio) → (low x).den ∣ x.den
low_den_divides x =
    let g = gcd (unsigned_abs x.num) x.den in
    subst (λ m. x.den / g ∣ m) (gcd-times_right (unsigned_abs x.num) x.den) (dvd-mul_left (x.den / g) g)

product_is_lowest : (x y : Ratio) → IsLowest x → IsLowest y → gcd (unsigned_abs x.num) y.den ≡ 1 → gcd (unsigned_abs y.num) x.den ≡ 1 → IsLowest (product_of x y)
product_is_lowest x y p q h j =
    let a = unsigned_abs x.num in
    let b = unsigned_abs y.num in
    let d = x.den * y.den in
    let left : gcd d a ≡ 1 = gcd_comm d a ∙ coprime_product a x.den y.den p.coprime h in
    let right : gcd d b ≡ 1 = gcd_comm d b ∙ coprime_product b x.den y.den j q.coprime in
    record {
      positive = mul-pos p.positive q.positive;
      coprime = ap (λ n. gcd n d) (unsigned_abs-mul x.num y.num) ∙ gcd_comm (a * b) d ∙ coprime_product d a b left right;
    }

pub crossed_is_lowest : (x y l r : Ratio) → l ≡ low (made x.num y.den) → r ≡ low (made y.num x.den) → IsLowest x → IsLowest y → IsLowest (product_of l r)
crossed_is_lowest x y l r el er p q =
    let a = made x.num y.den in
    let b = made y.num x.den in
    let left : gcd (unsigned_abs (low a).num) (low b).den ≡ 1 = coprime_left _ _ _ (low_num_divides a) (coprime_right _ _ _ (low_den_divides b) p.coprime) in
    let right : gcd (unsigned_abs (low b).num) (low a).den ≡ 1 = coprime_left _ _ _ (low_num_divides b) (coprime_right _ _ _ (low_den_divides a) q.coprime) in
    subst (λ (l : Ratio). IsLowest (product_of l r)) (sym el)
    (subst (λ (r : Ratio). IsLowest (product_of (low a) r)) (sym er)
    (product_is_lowest (low a) (low b) (low_is_lowest a q.positive) (low_is_lowest b p.positive) left right))

pub crossed-low : (x y l r : Ratio) → l ≡ low (made x.num y.den) → r ≡ low (made y.num x.den) → IsLowest x → IsLowest y → product_of l r ≡ low (product_of x y)
crossed-low x y l r el er p q =
    let a = made x.num y.den in
    let b = made y.num x.den in
    sym (low-lowest (product_of l r) (crossed_is_lowest x y l r el er p q))
    ∙ ap (λ (l : Ratio). low (product_of l r)) el
    ∙ ap (λ (r : Ratio). low (product_of (low a) r)) er
    ∙ low-product a b q.positive p.positive
    ∙ ap (λ (d : ℕ). low (made (x.num *ℤ y.num) d)) (mul_comm y.den x.den)
