-- Numbers that only 1 divides both.
use Rattle.std.proofs.Common.{◌≡◌, ℕ, zero, suc, ◌+◌, ◌-◌, ◌*◌, ◌/◌, ◌%◌, sym, ap, ◌∙◌, subst, arith}
use Rattle.std.specs.Int.{◌∣◌}
use Rattle.std.proofs.Math.Nat.{dvd-sub, dvd-mul_right, dvd-mul_right_of_dvd, dvd-mul_left_of_dvd, mod-add-div, eq-one_of_dvd-one}
use Rattle.std.proofs.lemmas.Nat.Gcd.{dvd_trans, dvd_antisymm}
use Rattle.priz_frac.specs.Gcd.{gcd, gcd_within}
use Rattle.priz_frac.proofs.Divisors.{gcd_is, gcd_comm}

rest_times : (a b d : ℕ) → (a % suc b) * d ≡ a * d - suc b * d * (a / suc b)
rest_times a b d =
    let e = mod-add-div a (suc b) in
    let f : (a % suc b + suc b * (a / suc b)) * d ≡ a * d = ap (λ n. n * d) e in
    omega (arith, f)

-- what divides both multiples divides the multiple of the greatest common divisor
within_times : (n a b d x : ℕ) → x ∣ a * d → x ∣ b * d → x ∣ gcd_within n a b * d
within_times zero a b d x p q = p
within_times (suc n) a zero d x p q = p
within_times (suc n) a (suc b) d x p q =
    within_times n (suc b) (a % suc b) d x q (subst (λ m. x ∣ m) (sym (rest_times a b d)) (dvd-sub x p (dvd-mul_right_of_dvd x q (a / suc b))))

-- a divisor that has no part in common with a divides the other factor
pub cancel : (a b d : ℕ) → gcd a b ≡ 1 → b ∣ a * d → b ∣ d
unfolding gcd
cancel a b d e p =
    let q : b ∣ gcd_within b a b * d = within_times b a b d b p (dvd-mul_right b d) in
    subst (λ m. b ∣ m) (ap (λ g. g * d) e ∙ omega arith) q

-- what divides two such numbers is 1
pub only_one : (k a b : ℕ) → k ∣ a → k ∣ b → gcd a b ≡ 1 → k ≡ 1
only_one k a b p q e = eq-one_of_dvd-one (subst (λ g. k ∣ g) e ((gcd_is a b).2 k p q))

pub coprime_left : (k a b : ℕ) → k ∣ a → gcd a b ≡ 1 → gcd k b ≡ 1
coprime_left k a b h e = let i = gcd_is k b in only_one (gcd k b) a b (dvd_trans (gcd k b) i.0 h) i.1 e

pub coprime_right : (k a b : ℕ) → k ∣ b → gcd a b ≡ 1 → gcd a k ≡ 1
coprime_right k a b h e = gcd_comm a k ∙ coprime_left k b a h (gcd_comm b a ∙ e)

-- a factor that has no part in common with a is not in the greatest common divisor
pub gcd-drop : (a c b : ℕ) → gcd a c ≡ 1 → gcd a (c * b) ≡ gcd a b
gcd-drop a c b e =
    let k = gcd a (c * b) in
    let i = gcd_is a (c * b) in
    let j = gcd_is a b in
    let f : gcd c k ≡ 1 = gcd_comm c k ∙ coprime_left k a c i.0 e in
    dvd_antisymm (j.2 k i.0 (cancel c k b f i.1)) (i.2 (gcd a b) j.0 (dvd-mul_left_of_dvd (gcd a b) j.1 c))

pub coprime_product : (a c b : ℕ) → gcd a c ≡ 1 → gcd a b ≡ 1 → gcd a (c * b) ≡ 1
coprime_product a c b e f = gcd-drop a c b e ∙ f
