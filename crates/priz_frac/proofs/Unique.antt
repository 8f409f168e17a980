-- The same fractions have equal lowest terms, and only they.
use Rattle.std.proofs.Common.{◌≡◌, ◌↔◌, ℕ, zero, suc, ◌*◌, ◌/◌, ◌<◌, refl, sym, ap, ◌∙◌, subst, arith, ℤ, pos, negsuc}
use Rattle.std.specs.Prelude.{neg_ℤ, unsigned_abs, ◌*ℤ◌}
use Rattle.std.specs.Int.{◌∣◌}
use Rattle.std.proofs.Math.Nat.{mul-pos, dvd-mul_left, eq_of_mul-eq-mul_left, eq_of_mul-eq-mul_right}
use Rattle.std.proofs.lemmas.Nat.Gcd.{dvd_antisymm}
use Rattle.priz_frac.specs.Ratio.{Ratio, IsSame}
use Rattle.priz_frac.specs.Gcd.{gcd}
use Rattle.priz_frac.specs.Lowest.{low}
use Rattle.priz_frac.proofs.Coprime.{cancel}
use Rattle.priz_frac.proofs.Divisors.{gcd_positive, gcd-lowest, gcd-times_left, gcd-times_right, numerator_positive, quotient_positive}
use Rattle.priz_frac.proofs.Lowest.{made, abs-neg}

same_dens : (n d m e : ℕ) → gcd n d ≡ 1 → gcd m e ≡ 1 → n * e ≡ m * d → d ≡ e
same_dens n d m e p q h =
    dvd_antisymm (cancel n d e p (subst (λ x. d ∣ x) (sym h) (dvd-mul_left d m))) (cancel m e d q (subst (λ x. e ∣ x) h (dvd-mul_left e n)))

-- the parts of two equal quotients, both divided by their greatest common divisors
same_parts : (n d m e : ℕ) → 0 < d → 0 < e → n * e ≡ m * d → (n / gcd n d ≡ m / gcd m e) × (d / gcd n d ≡ e / gcd m e)
same_parts n d m e pd pe h =
    let g = gcd n d in
    let k = gcd m e in
    let gn : g * (n / g) ≡ n = gcd-times_left n d in
    let gd : g * (d / g) ≡ d = gcd-times_right n d in
    let km : k * (m / k) ≡ m = gcd-times_left m e in
    let ke : k * (e / k) ≡ e = gcd-times_right m e in
    let big : g * (n / g) * (k * (e / k)) ≡ k * (m / k) * (g * (d / g)) = ap (λ x. x * (k * (e / k))) gn ∙ ap (λ x. n * x) ke ∙ h ∙ sym (ap (λ x. x * (g * (d / g))) km ∙ ap (λ x. m * x) gd) in
    let one : g * (k * ((n / g) * (e / k))) ≡ g * (k * ((m / k) * (d / g))) = omega (arith, big) in
    let two = eq_of_mul-eq-mul_left g (gcd_positive n d pd) _ _ one in
    let cross : (n / g) * (e / k) ≡ (m / k) * (d / g) = eq_of_mul-eq-mul_left k (gcd_positive m e pe) _ _ two in
    let dens : d / g ≡ e / k = same_dens (n / g) (d / g) (m / k) (e / k) (gcd-lowest n d pd) (gcd-lowest m e pe) cross in
    let nums : n / g ≡ m / k = eq_of_mul-eq-mul_right (d / g) (quotient_positive n d pd) _ _ (ap (λ x. (n / g) * x) dens ∙ cross) in
    (nums, dens)

not_below : (a k : ℕ) → 0 < k → pos a ≡ neg_ℤ (pos k) → ⊥
not_below a zero h e = omega arith
not_below a (suc k) h e = cc

same_abs : (a b : ℕ) → neg_ℤ (pos a) ≡ neg_ℤ (pos b) → a ≡ b
same_abs a b e = sym (abs-neg a) ∙ ap unsigned_abs e ∙ abs-neg b

-- the same fractions have the same lowest terms
pub low_same : (x y : Ratio) → 0 < x.den → 0 < y.den → IsSame x y → low x ≡ low y
low_same x y p q h = by_signs x.num y.num x.den y.den p q h
  where
    by_signs : (a b : ℤ) (d e : ℕ) → 0 < d → 0 < e → IsSame (made a d) (made b e) → low (made a d) ≡ low (made b e)
    by_signs (pos n) (pos m) d e p q h =
        let k : n * e ≡ m * d = cc in
        let s = same_parts n d m e p q k in
        ap (λ w. made (pos w) (d / gcd n d)) s.0 ∙ ap (λ w. made (pos (m / gcd m e)) w) s.1
    by_signs (negsuc n) (negsuc m) d e p q h =
        let k : suc n * e ≡ suc m * d = same_abs (suc n * e) (suc m * d) h in
        let s = same_parts (suc n) d (suc m) e p q k in
        ap (λ w. made (neg_ℤ (pos w)) (d / gcd (suc n) d)) s.0 ∙ ap (λ w. made (neg_ℤ (pos (suc m / gcd (suc m) e))) w) s.1
    by_signs (pos n) (negsuc m) d e p q h = absurd (not_below (n * e) (suc m * d) (mul-pos {m = suc m} {n = d} (omega arith) p) h)
    by_signs (negsuc n) (pos m) d e p q h = absurd (not_below (m * d) (suc n * e) (mul-pos {m = suc n} {n = e} (omega arith) q) (sym h))

part_same : (n d g a b : ℕ) → g * a ≡ n → g * b ≡ d → a * d ≡ n * b
part_same n d g a b p q = ap (λ x. a * x) (sym q) ∙ omega arith ∙ ap (λ x. x * b) p

times_neg : (a d : ℕ) → neg_ℤ (pos a) *ℤ pos d ≡ neg_ℤ (pos (a * d))
times_neg zero d = let e : 0 ≡ 0 * d = omega arith in ap pos (sym e) ∙ ap (λ k. neg_ℤ (pos k)) e
times_neg (suc a) d = refl

-- lowest terms are the same fraction
pub low_is_same : (x : Ratio) → IsSame (low x) x
low_is_same x = by_sign x.num x.den
  where
    by_sign : (a : ℤ) (d : ℕ) → IsSame (low (made a d)) (made a d)
    by_sign (pos n) d = ap pos (part_same n d (gcd n d) (n / gcd n d) (d / gcd n d) (gcd-times_left n d) (gcd-times_right n d))
    by_sign (negsuc n) d =
        let g = gcd (suc n) d in
        let e = part_same (suc n) d g (suc n / g) (d / g) (gcd-times_left (suc n) d) (gcd-times_right (suc n) d) in
        times_neg (suc n / g) d ∙ ap (λ k. neg_ℤ (pos k)) e

-- the products across of two quotients, of which both give the same parts
across : (n d m e : ℕ) → n / gcd n d ≡ m / gcd m e → d / gcd n d ≡ e / gcd m e → n * e ≡ m * d
across n d m e p q =
    let g = gcd n d in
    let k = gcd m e in
    by_parts n d m e g k (n / g) (d / g) (m / k) (e / k) (gcd-times_left n d) (gcd-times_right n d) (gcd-times_left m e) (gcd-times_right m e) p q
  where
    by_parts : (n d m e g k a b x y : ℕ) → g * a ≡ n → g * b ≡ d → k * x ≡ m → k * y ≡ e → a ≡ x → b ≡ y → n * e ≡ m * d
    by_parts n d m e g k a b x y gn gd km ke p q =
        ap (λ w. w * e) (sym gn) ∙ ap (λ w. g * a * w) (sym ke) ∙ ap (λ w. g * w * (k * y)) p ∙ omega arith
        ∙ ap (λ w. k * x * (g * w)) (sym q) ∙ ap (λ w. w * (g * b)) km ∙ ap (λ w. m * w) gd

-- fractions with the same lowest terms are the same
same_low : (x y : Ratio) → low x ≡ low y → IsSame x y
same_low x y h = by_signs x.num y.num x.den y.den h
  where
    by_signs : (a b : ℤ) (d e : ℕ) → low (made a d) ≡ low (made b e) → IsSame (made a d) (made b e)
    by_signs (pos n) (pos m) d e h = ap pos (across n d m e (ap (λ (r : Ratio). unsigned_abs r.num) h) (ap (λ (r : Ratio). r.den) h))
    by_signs (negsuc n) (negsuc m) d e h =
        let p = sym (abs-neg (suc n / gcd (suc n) d)) ∙ ap (λ (r : Ratio). unsigned_abs r.num) h ∙ abs-neg (suc m / gcd (suc m) e) in
        ap (λ k. neg_ℤ (pos k)) (across (suc n) d (suc m) e p (ap (λ (r : Ratio). r.den) h))
    by_signs (pos n) (negsuc m) d e h = absurd (not_below (n / gcd n d) (suc m / gcd (suc m) e) (numerator_positive (suc m) e (omega arith)) (ap (λ (r : Ratio). r.num) h))
    by_signs (negsuc n) (pos m) d e h = absurd (not_below (m / gcd m e) (suc n / gcd (suc n) d) (numerator_positive (suc n) d (omega arith)) (ap (λ (r : Ratio). r.num) (sym h)))

pub low-same_iff : (x y : Ratio) → 0 < x.den → 0 < y.den → (IsSame x y ↔ (low x ≡ low y))
low-same_iff x y p q = (low_same x y p q, same_low x y)
