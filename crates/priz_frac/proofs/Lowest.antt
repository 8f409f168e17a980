-- The parts that a sign and two quotients make are in lowest terms.
use Rattle.std.proofs.Common.{◌≡◌, ℕ, zero, suc, ◌/◌, ◌<◌, ◌≤◌, ℤ, pos, negsuc, Bool, true, false, refl, ap, ◌∙◌, subst}
use Rattle.std.specs.Prelude.{neg_ℤ, unsigned_abs}
use Rattle.std.proofs.Math.Nat.{le_trans, div-le_self, div-one}
use Rattle.priz_frac.specs.Ratio.{Ratio}
use Rattle.priz_frac.specs.Gcd.{gcd}
use Rattle.priz_frac.specs.Lowest.{low, signed_as, IsLowest}
use Rattle.priz_frac.specs.Narrow.{widest, IsNarrow}
use Rattle.priz_frac.specs.Sign.{signed_number, signed_ratio}
use Rattle.priz_frac.proofs.Divisors.{quotient_positive, gcd-lowest}

pub abs-neg : (n : ℕ) → unsigned_abs (neg_ℤ (pos n)) ≡ n
abs-neg zero = refl
abs-neg (suc n) = refl

pub abs-signed_as : (z : ℤ) (n : ℕ) → unsigned_abs (signed_as z n) ≡ n
abs-signed_as (pos z) n = refl
abs-signed_as (negsuc z) n = abs-neg n

abs-signed_number : (b : Bool) (n : ℕ) → unsigned_abs (signed_number b (pos n)) ≡ n
abs-signed_number true n = abs-neg n
abs-signed_number false n = refl

abbrev pub made : ℤ → ℕ → Ratio
made z d = record { num = z; den = d }

lowest_of_abs : (z : ℤ) (n d : ℕ) → 0 < d → unsigned_abs z ≡ n / gcd n d → IsLowest (made z (d / gcd n d))
lowest_of_abs z n d h e = record {
  positive = quotient_positive n d h;
  coprime = ap (λ m. gcd m (d / gcd n d)) e ∙ gcd-lowest n d h;
}

pub low_is_lowest : (x : Ratio) → 0 < x.den → IsLowest (low x)
low_is_lowest x h =
    let n = unsigned_abs x.num in
    lowest_of_abs (low x).num n x.den h (abs-signed_as x.num (n / gcd n x.den))

pub lowest_signed : (b : Bool) (n d g q r : ℕ) → 0 < d → g ≡ gcd n d → q ≡ n / g → r ≡ d / g → IsLowest (signed_ratio b q r)
lowest_signed b n d g q r h eg eq er =
    let z = signed_number b (pos (n / gcd n d)) in
    let e : z ≡ signed_number b (pos q) = cc in
    let f : d / gcd n d ≡ r = cc in
    subst (λ (x : ℤ). IsLowest (made x r)) e
    (subst (λ (k : ℕ). IsLowest (made z k)) f (lowest_of_abs z n d h (abs-signed_number b (n / gcd n d))))

signed_as-size : (z : ℤ) → signed_as z (unsigned_abs z) ≡ z
signed_as-size (pos n) = refl
signed_as-size (negsuc n) = refl

-- lowest terms are their own lowest terms
pub low-lowest : (x : Ratio) → IsLowest x → low x ≡ x
low-lowest x h =
    let z = x.num in
    ap (λ (k : ℕ). made (signed_as z (unsigned_abs z / k)) (x.den / k)) h.coprime
    ∙ ap (λ (n : ℕ). made (signed_as z n) (x.den / 1)) (div-one (unsigned_abs z))
    ∙ ap (λ (d : ℕ). made (signed_as z (unsigned_abs z)) d) (div-one x.den)
    ∙ ap (λ (n : ℤ). made n x.den) (signed_as-size z)

pub low_is_narrow : (x : Ratio) → 0 < x.den → unsigned_abs x.num ≤ widest → x.den ≤ widest → IsNarrow (low x)
low_is_narrow x h hn hd =
    let n = unsigned_abs x.num in
    let g = gcd n x.den in
    let below : n / g ≤ widest = le_trans (div-le_self n g) hn in
    record {
      lowest = low_is_lowest x h;
      num_fits = rw (abs-signed_as x.num (n / g)) below;
      den_fits = le_trans (div-le_self x.den g) hd;
    }
