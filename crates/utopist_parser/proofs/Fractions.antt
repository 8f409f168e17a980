-- The fraction of a number of a text, which is never refused.
use Rattle.std.proofs.Common.{◌≡◌, ℕ, zero, suc, ◌/◌, ◌≤◌, ℤ, pos, negsuc, ◌≤ℤ◌, ◌<ℤ◌, Bool, true, false, Ok, refl, ap, ◌∙◌, arith, to_z, of_z, w64}
use Rattle.std.specs.Prelude.{neg_ℤ, unsigned_abs, nat_le, ◌&&◌}
use Rattle.std.specs.Ordering.{int_eq}
use Rattle.std.specs.Int.{w128}
use Rattle.std.proofs.Math.Nat.{div-le_self}
use Rattle.std.proofs.Math.Facts.{sfits_widen}
use Rattle.std.proofs.lemmas.Int.{ints, to_z-of_z}
use mir.Val.{SFits}
use Rattle.priz_frac.specs.Ratio.{Ratio}
use Rattle.priz_frac.specs.Gcd.{gcd}
use Rattle.priz_frac.specs.Lowest.{low, signed_as}
use Rattle.priz_frac.specs.Narrow.{widest, fits}
use Rattle.priz_frac.specs.Outcome.{narrow, narrow_ratio}
use Rattle.priz_frac.specs.Sign.{signed_number, signed_ratio}

-- the size of a negative number
abs-neg : (n : ℕ) → unsigned_abs (neg_ℤ (pos n)) ≡ n
abs-neg zero = refl
abs-neg (suc n) = refl

-- the size of a number with the sign of another
abs-signed_as : (z : ℤ) (n : ℕ) → unsigned_abs (signed_as z n) ≡ n
abs-signed_as (pos z) n = refl
abs-signed_as (negsuc z) n = abs-neg n

-- the size of a number with a sign that is set or not
abs-signed_number : (negative : Bool) (n : ℕ) → unsigned_abs (signed_number negative (pos n)) ≡ n
abs-signed_number true n = abs-neg n
abs-signed_number false n = refl

-- both tests of what is small enough
both_fit : (n d most : ℕ) → n ≤ most → d ≤ most → nat_le n most && nat_le d most ≡ true
both_fit n d most h i = grind (arith, h, i)

-- parts that are small enough are so in lowest terms
low_fits : (x : Ratio) → unsigned_abs x.num ≤ widest → x.den ≤ widest → fits (low x) ≡ true
low_fits x h i =
    let g = gcd (unsigned_abs x.num) x.den in
    let n : unsigned_abs (low x).num ≤ widest = omega (arith, h, abs-signed_as x.num (unsigned_abs x.num / g), div-le_self (unsigned_abs x.num) g) in
    both_fit (unsigned_abs (low x).num) (low x).den widest n (omega (arith, i, div-le_self x.den g))

-- what is small enough is not refused
narrow_is : (x : Ratio) → unsigned_abs x.num ≤ widest → x.den ≤ widest → narrow x ≡ Ok (low x)
narrow_is x h i = rw (low_fits x h i) refl

-- a natural number by a positive one
divided_is : (negative : Bool) (n d : ℤ) → pos 0 ≤ℤ n → pos 0 <ℤ d → unsigned_abs n ≤ widest → unsigned_abs d ≤ widest → narrow_ratio (signed_number negative n) d ≡ Ok (low (signed_ratio negative (unsigned_abs n) (unsigned_abs d)))
divided_is negative (negsuc n) d h i j k = absurd (omega (arith, h))
divided_is negative (pos n) (negsuc d) h i j k = absurd (omega (arith, i))
divided_is negative (pos n) (pos zero) h i j k = absurd (omega (arith, i))
divided_is negative (pos n) (pos (suc d)) h i j k =
    let some : int_eq (pos (suc d)) (pos 0) ≡ false = grind arith in
    rw some (narrow_is (signed_ratio negative n (suc d)) (rw (abs-signed_number negative n) j) k)

-- a number of 64 bits as one of 128
widened : (z : ℤ) → SFits w64 z → to_z w128 (of_z w128 (to_z w64 (of_z w64 z))) ≡ z
widened z f = ap (λ x. to_z w128 (of_z w128 x)) (to_z-of_z w64 z f) ∙ to_z-of_z w128 z (sfits_widen tt f)

-- the same in the code's numbers
pub fraction_is : (negative : Bool) (n d signed : ℤ) → SFits w64 n → SFits w64 d → SFits w64 signed → pos 0 ≤ℤ n → pos 0 <ℤ d → signed ≡ signed_number negative (to_z w64 (of_z w64 n))
    → narrow_ratio (to_z w128 (of_z w128 (to_z w64 (of_z w64 signed)))) (to_z w128 (of_z w128 (to_z w64 (of_z w64 d)))) ≡ Ok (low (signed_ratio negative (unsigned_abs n) (unsigned_abs d)))
fraction_is negative n d signed fn fd fs h i e =
    let an : unsigned_abs n ≤ widest = omega (arith, ints, fn, h) in
    let ad : unsigned_abs d ≤ widest = omega (arith, ints, fd, i) in
    let numerator : signed ≡ signed_number negative n = e ∙ ap (signed_number negative) (to_z-of_z w64 n fn) in
    (λ j. narrow_ratio ((widened signed fs ∙ numerator) j) (widened d fd j)) ∙ divided_is negative n d h i an ad
