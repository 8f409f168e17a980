-- Laws of the greatest common divisor.
use Rattle.std.proofs.Common.{◌≡◌, ℕ, zero, suc, ◌*◌, ◌/◌, ◌%◌, ◌<◌, ◌≤◌, refl, subst, arith}
use Rattle.std.specs.Int.{IsGcd, ◌∣◌}
use Rattle.std.proofs.Math.Nat.{mul-div_cancel', mul-dvd-mul_left, eq-zero_of_zero-dvd, eq-one_of_dvd-one}
use Rattle.std.proofs.lemmas.Nat.Gcd.{IsGcd-from_zero, IsGcd-from_mod, IsGcd-swap, same_from_IsGcd, le_of_dvd}
use Rattle.priz_frac.specs.Gcd.{gcd, gcd_within}

-- any count of steps from b on gives the same
enough : (n m a b : ℕ) → b ≤ n → b ≤ m → gcd_within n a b ≡ gcd_within m a b
enough zero zero a b h k = refl
enough zero (suc m) a zero h k = refl
enough zero (suc m) a (suc b) h k = absurd (omega arith)
enough (suc n) zero a zero h k = refl
enough (suc n) zero a (suc b) h k = absurd (omega arith)
enough (suc n) (suc m) a zero h k = refl
enough (suc n) (suc m) a (suc b) h k =
    let less : a % suc b < suc b = omega arith in
    enough n m (suc b) (a % suc b) (omega arith) (omega arith)

pub gcd-zero : (a b : ℕ) → b ≡ 0 → gcd a b ≡ a
unfolding gcd
gcd-zero a zero h = refl
gcd-zero a (suc b) h = absurd (omega arith)

pub gcd-step : (a b : ℕ) → 0 < b → gcd b (a % b) ≡ gcd a b
unfolding gcd
gcd-step a zero h = absurd (omega arith)
gcd-step a (suc b) h =
    let less : a % suc b < suc b = omega arith in
    enough (a % suc b) b (suc b) (a % suc b) (omega arith) (omega arith)

within_is : (n a b : ℕ) → b ≤ n → IsGcd a b (gcd_within n a b)
within_is zero a zero h = IsGcd-from_zero a zero refl
within_is zero a (suc b) h = absurd (omega arith)
within_is (suc n) a zero h = IsGcd-from_zero a zero refl
within_is (suc n) a (suc b) h =
    let less : a % suc b < suc b = omega arith in
    IsGcd-from_mod a (suc b) _ (within_is n (suc b) (a % suc b) (omega arith))

positive_divisor : (g b : ℕ) → 0 < b → g ∣ b → 0 < g
positive_divisor zero b h d = let e = eq-zero_of_zero-dvd d in omega arith
positive_divisor (suc g) b h d = omega arith

positive_part : (g b q : ℕ) → 0 < b → g * q ≡ b → 0 < q
positive_part g b zero h e = omega arith
positive_part g b (suc q) h e = omega arith

at_most_one : (g d : ℕ) → 0 < g → 0 < d → g * d ≤ g → d ≡ 1
at_most_one g zero p q h = omega arith
at_most_one g (suc zero) p q h = refl
at_most_one g (suc (suc d)) p q h = absurd (omega arith)

pub gcd_is : (a b : ℕ) → IsGcd a b (gcd a b)
unfolding gcd
gcd_is a b = within_is b a b (omega arith)

pub gcd_comm : (a b : ℕ) → gcd a b ≡ gcd b a
gcd_comm a b = same_from_IsGcd a b (gcd a b) (gcd b a) (gcd_is a b) (IsGcd-swap b a (gcd b a) (gcd_is b a))

pub gcd-one : (a b : ℕ) → b ≡ 1 → gcd a b ≡ 1
gcd-one a b h = eq-one_of_dvd-one (subst (λ n. gcd a b ∣ n) h (gcd_is a b).1)

pub gcd_within_right : (a b : ℕ) → 0 < b → gcd a b ≤ b
gcd_within_right a b h = le_of_dvd h (gcd_is a b).1

pub gcd-times_left : (a b : ℕ) → gcd a b * (a / gcd a b) ≡ a
gcd-times_left a b = mul-div_cancel' (gcd a b) (gcd_is a b).0

pub gcd-times_right : (a b : ℕ) → gcd a b * (b / gcd a b) ≡ b
gcd-times_right a b = mul-div_cancel' (gcd a b) (gcd_is a b).1

pub gcd_positive : (a b : ℕ) → 0 < b → 0 < gcd a b
gcd_positive a b h = positive_divisor (gcd a b) b h (gcd_is a b).1

pub numerator_positive : (a b : ℕ) → 0 < a → 0 < a / gcd a b
numerator_positive a b h = positive_part (gcd a b) a (a / gcd a b) h (gcd-times_left a b)

pub quotient_positive : (a b : ℕ) → 0 < b → 0 < b / gcd a b
quotient_positive a b h = positive_part (gcd a b) b (b / gcd a b) h (gcd-times_right a b)

pub gcd-lowest : (a b : ℕ) → 0 < b → gcd (a / gcd a b) (b / gcd a b) ≡ 1
gcd-lowest a b h =
    let g = gcd a b in
    let d = gcd (a / g) (b / g) in
    let i = gcd_is a b in
    let j = gcd_is (a / g) (b / g) in
    let in_a : g * d ∣ a = subst (λ n. g * d ∣ n) (gcd-times_left a b) (mul-dvd-mul_left d g j.0) in
    let in_b : g * d ∣ b = subst (λ n. g * d ∣ n) (gcd-times_right a b) (mul-dvd-mul_left d g j.1) in
    at_most_one g d (gcd_positive a b h) (gcd_positive (a / g) (b / g) (quotient_positive a b h))
    (le_of_dvd (gcd_positive a b h) (i.2 (g * d) in_a in_b))
