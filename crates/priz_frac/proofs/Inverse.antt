-- The inverse of a fraction, by which a quotient is a product.
use Rattle.std.proofs.Common.{◌≡◌, ℕ, zero, suc, ◌<◌, ℤ, pos, negsuc, Bool, false, refl, sym, ap, ◌∙◌, arith}
use Rattle.std.specs.Prelude.{unsigned_abs, int_lt, ◌≢◌, if◌then◌else◌, Err}
use Rattle.std.specs.Ordering.{int_eq}
use borrow.Author.Differences.{false_is_lt}
use Rattle.priz_frac.specs.Ratio.{Ratio}
use Rattle.priz_frac.specs.Arithmetic.{product_of, inverse_of, quotient_of}
use Rattle.priz_frac.specs.Gcd.{gcd}
use Rattle.priz_frac.specs.Narrow.{IsNarrow}
use Rattle.priz_frac.specs.Outcome.{narrow, narrow_quotient}
use Rattle.priz_frac.specs.declared.fault.FracFault.TheVariants.{ZeroDivisor}
use Rattle.priz_frac.specs.Sign.{signed_number}
use Rattle.priz_frac.proofs.Divisors.{gcd_comm}
use Rattle.priz_frac.proofs.Lowest.{made, abs-neg}
use Rattle.priz_frac.proofs.Operations.{quotient_is_product}

pub inverse_is_narrow : (x : Ratio) → x.num ≢ pos 0 → IsNarrow x → IsNarrow (inverse_of x)
inverse_is_narrow x h f = by_sign x.num x.den h f
  where
    by_sign : (z : ℤ) (d : ℕ) → z ≢ pos 0 → IsNarrow (made z d) → IsNarrow (inverse_of (made z d))
    by_sign (pos zero) d h f = absurd (h refl)
    by_sign (pos (suc n)) d h f = record {
      lowest = record { positive = omega arith; coprime = gcd_comm d (suc n) ∙ f.lowest.coprime };
      num_fits = f.den_fits;
      den_fits = f.num_fits;
    }
    by_sign (negsuc n) d h f = record {
      lowest = record { positive = omega arith; coprime = ap (λ (m : ℕ). gcd m (suc n)) (abs-neg d) ∙ gcd_comm d (suc n) ∙ f.lowest.coprime };
      num_fits = rw (abs-neg d) f.den_fits;
      den_fits = f.num_fits;
    }

pub inverse_parts : (x : Ratio) (z : ℤ) → z ≡ signed_number (int_lt x.num (pos 0)) (pos x.den) → inverse_of x ≡ made z (unsigned_abs x.num)
inverse_parts x z e = by_sign x.num x.den e
  where
    by_sign : (n : ℤ) (d : ℕ) → z ≡ signed_number (int_lt n (pos 0)) (pos d) → inverse_of (made n d) ≡ made z (unsigned_abs n)
    by_sign (pos n) d e = ap (λ (m : ℤ). made m n) (ap (λ (b : Bool). signed_number b (pos d)) (false_is_lt (pos n) (pos 0) (omega arith)) ∙ sym e)
    by_sign (negsuc n) d e = ap (λ (m : ℤ). made m (suc n)) (sym e)

pub narrow_quotient-apart : (x y : Ratio) → 0 < x.den → y.num ≢ pos 0 → narrow (product_of x (inverse_of y)) ≡ narrow_quotient x y
narrow_quotient-apart x y p h = ap narrow (sym (quotient_is_product x y p)) ∙ ap (λ (b : Bool). if b then Err ZeroDivisor else narrow (quotient_of x y)) (sym (apart_from_zero y.num h))
  where
    apart_from_zero : (z : ℤ) → z ≢ pos 0 → int_eq z (pos 0) ≡ false
    apart_from_zero (pos zero) h = absurd (h refl)
    apart_from_zero (pos (suc n)) h = grind arith
    apart_from_zero (negsuc n) h = refl
