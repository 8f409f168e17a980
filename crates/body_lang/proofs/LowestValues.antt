-- Operators and loops keep lowest terms, and narrowly those that fit.
use Rattle.std.proofs.Common.{◌≡◌, ℕ, zero, suc, ◌*◌, ◌<◌, ◌≤◌, ℤ, pos, negsuc, ◌+ℤ◌, Bool, true, false, Some, None, Ok, Err, refl, sym, ap, ◌∙◌, subst, arith, leb-true}
use Rattle.std.specs.Prelude.{◌&&◌, ◌*ℤ◌, neg_ℤ, unsigned_abs, nat_le, IfOk, if◌then◌else◌}
use Rattle.std.specs.Int.{int_gap}
use Rattle.std.specs.Ordering.{int_eq}
use Rattle.std.proofs.Math.Nat.{mul-pos}
use Rattle.std.proofs.lemmas.Int.{ints}
use Rattle.priz_frac.specs.Ratio.{Ratio}
use Rattle.priz_frac.specs.Arithmetic.{sum_of, difference_of, product_of, negative_of, ratio, quotient_of}
use Rattle.priz_frac.specs.Gcd.{gcd}
use Rattle.priz_frac.specs.Lowest.{low, IsLowest}
use Rattle.priz_frac.specs.Narrow.{widest, fits, IsNarrow}
use Rattle.priz_frac.specs.Whole.{whole_of, whole}
use Rattle.priz_frac.specs.declared.fault.FracFault.TheVariants as frac
use Rattle.priz_frac.proofs.Lowest.{low_is_lowest}
use Rattle.body_lang.specs.declared.op.Op.{Op}
use Rattle.body_lang.specs.declared.op.Op.TheVariants.{Add, Sub, Mul, Div}
use Rattle.body_lang.specs.Precision.{Precision, narrowly, exactly}
use Rattle.body_lang.specs.Operation.{value_in, operate}
use Rattle.body_lang.specs.Rounds.{round_count}
use Rattle.body_lang.proofs.KeptValues.{IsKept}

whole_is_lowest : (z : ℤ) → IsLowest (whole z)
unfolding gcd
whole_is_lowest z = record { positive = omega arith; coprime = refl }

abs-neg : (z : ℤ) → unsigned_abs (neg_ℤ z) ≡ unsigned_abs z
abs-neg (pos zero) = refl
abs-neg (pos (suc n)) = refl
abs-neg (negsuc n) = refl

negative_is_lowest : (x : Ratio) → IsLowest x → IsLowest (negative_of x)
negative_is_lowest x h =
    record { positive = h.positive; coprime = ap (λ n. gcd n x.den) (abs-neg x.num) ∙ h.coprime }

turned_positive : (n : ℤ) (m : ℕ) → 0 < m → 0 < (ratio n (neg_ℤ (pos m))).den
turned_positive n zero h = h
turned_positive n (suc m) h = h

-- the denominator of a quotient
quotient_positive : (n z : ℤ) (d : ℕ) → 0 < d → int_eq z (pos 0) ≡ false → 0 < (ratio n (z *ℤ pos d)).den
quotient_positive n (pos zero) d h e = absurd (cc)
quotient_positive n (pos (suc k)) d h e = mul-pos {m = suc k} {n = d} (omega arith) h
quotient_positive n (negsuc k) d h e = turned_positive n (suc k * d) (mul-pos {m = suc k} {n = d} (omega arith) h)

module _ (P : Ratio → Type 0) (precision : Precision) (h : (z : Ratio) → 0 < z.den → IfOk (value_in precision z) P) where
  divided : (b : Bool) (z : Ratio) → (b ≡ false → 0 < z.den) → IfOk (if b then Err frac.ZeroDivisor else value_in precision z) P
  divided true z k = tt
  divided false z k = h z (k refl)

  results : (o : Op) (x y : Ratio) → 0 < x.den → 0 < y.den → IfOk (operate precision o x y) P
  results Add x y p q = h (sum_of x y) (mul-pos {m = x.den} {n = y.den} p q)
  results Sub x y p q = h (difference_of x y) (mul-pos {m = x.den} {n = y.den} p q)
  results Mul x y p q = h (product_of x y) (mul-pos {m = x.den} {n = y.den} p q)
  results Div x y p q =
      divided (int_eq y.num (pos 0)) (quotient_of x y) (quotient_positive (x.num *ℤ pos y.den) y.num x.den p)

-- a value in lowest terms that is kept where it fits
fitting : (b c : Bool) (v : Ratio) → IsLowest v → b ≡ nat_le (unsigned_abs v.num) widest → c ≡ nat_le v.den widest → IfOk (if b && c then Ok v else Err frac.Width) IsNarrow
fitting true true v h p q = record { lowest = h; num_fits = leb-true _ _ (sym p); den_fits = leb-true _ _ (sym q) }
fitting true false v h p q = tt
fitting false c v h p q = tt

narrow_value : (z : Ratio) → 0 < z.den → IfOk (value_in narrowly z) IsNarrow
narrow_value z h = fitting _ _ (low z) (low_is_lowest z h) refl refl

fitting_is_lowest : (b : Bool) (v : Ratio) → IsLowest v → IfOk (if b then Ok v else Err frac.Width) IsLowest
fitting_is_lowest true v h = h
fitting_is_lowest false v h = tt

lowest_value : (precision : Precision) (z : Ratio) → 0 < z.den → IfOk (value_in precision z) IsLowest
lowest_value narrowly z h = fitting_is_lowest (fits (low z)) (low z) (low_is_lowest z h)
lowest_value exactly z h = low_is_lowest z h

-- a result is in lowest terms, whatever the terms that it is taken of
pub results_are_lowest : (precision : Precision) (o : Op) (x y : Ratio) → 0 < x.den → 0 < y.den → IfOk (operate precision o x y) IsLowest
results_are_lowest precision o x y p q = results IsLowest precision (lowest_value precision) o x y p q

pub lowest_is_kept : (precision : Precision) → IsKept IsLowest precision
lowest_is_kept precision = record {
  nought = whole_is_lowest (pos 0);
  one = whole_is_lowest (pos 1);
  negative = negative_is_lowest;
  result = λ o x y p q. results IsLowest precision (lowest_value precision) o x y p.positive q.positive;
  between = λ x y a b p q e f j l. whole_is_lowest (a +ℤ pos j);
}

whole_is_narrow : (z : ℤ) → unsigned_abs z ≤ widest → IsNarrow (whole z)
whole_is_narrow z h = record { lowest = whole_is_lowest z; num_fits = h; den_fits = omega arith }

negative_is_narrow : (x : Ratio) → IsNarrow x → IsNarrow (negative_of x)
negative_is_narrow x h = record {
  lowest = negative_is_lowest x h.lowest;
  num_fits = rw (abs-neg x.num) h.num_fits;
  den_fits = h.den_fits;
}

whole_is_numerator : (b : Bool) (z a : ℤ) → (if b then Some z else None) ≡ Some a → z ≡ a
whole_is_numerator true z a e = cc
whole_is_numerator false z a e = absurd (cc)

within_gap : (b : Bool) (j n : ℕ) → j < (if b then 0 else suc n) → j < suc n
within_gap true j n h = absurd (omega arith)
within_gap false j n h = h

-- between two numbers that fit, all fit
between_fits : (a b : ℤ) (j : ℕ) → unsigned_abs a ≤ widest → unsigned_abs b ≤ widest → j < suc (int_gap a b) → unsigned_abs (a +ℤ pos j) ≤ widest
between_fits (pos a) (pos b) j p q h = omega (arith, ints)
between_fits (pos a) (negsuc b) j p q h = omega (arith, ints)
between_fits (negsuc a) (pos b) j p q h = omega (arith, ints)
between_fits (negsuc a) (negsuc b) j p q h = omega (arith, ints)

between_is_narrow : (x y : Ratio) (a b : ℤ) → IsNarrow x → IsNarrow y → whole_of x ≡ Some a → whole_of y ≡ Some b → (j : ℕ) → j < round_count a b → IsNarrow (whole (a +ℤ pos j))
between_is_narrow x y a b p q e f j l =
    let left : unsigned_abs a ≤ widest = subst (λ z. unsigned_abs z ≤ widest) (whole_is_numerator _ x.num a e) p.num_fits in
    let right : unsigned_abs b ≤ widest = subst (λ z. unsigned_abs z ≤ widest) (whole_is_numerator _ y.num b f) q.num_fits in
    whole_is_narrow (a +ℤ pos j) (between_fits a b j left right (within_gap _ j (int_gap a b) l))

pub narrow_is_kept : IsKept IsNarrow narrowly
narrow_is_kept = record {
  nought = whole_is_narrow (pos 0) (omega arith);
  one = whole_is_narrow (pos 1) (omega arith);
  negative = negative_is_narrow;
  result = λ o x y p q. results IsNarrow narrowly narrow_value o x y p.lowest.positive q.lowest.positive;
  between = between_is_narrow;
}
