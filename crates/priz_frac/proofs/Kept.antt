-- Sums, products and quotients, as i128 and i64 keep them.
use Rattle.std.proofs.Common.{◌≡◌, ℕ, ◌*◌, ◌≤◌, ◌/◌, ◌<◌, ℤ, suc, pos, negsuc, sym, ap, subst, ◌∙◌, arith, to_z, of_z}
use Rattle.std.specs.Prelude.{◌+ℤ◌, ◌*ℤ◌, unsigned_abs}
use Rattle.std.proofs.Math.Nat.{le_trans, div-le_self}
use Rattle.std.proofs.lemmas.Int.{ints}
use lib.Signed.{quot_z}
use mir.Syntax.{w64, w128}
use Rattle.priz_frac.specs.Ratio.{Ratio}
use Rattle.priz_frac.specs.Arithmetic.{sum_of, product_of}
use Rattle.priz_frac.specs.Gcd.{gcd}
use Rattle.priz_frac.specs.Lowest.{signed_as}
use Rattle.priz_frac.specs.Narrow.{widest, IsNarrow}
use Rattle.priz_frac.proofs.Lowest.{made, low_is_narrow}

-- a number as i128 keeps it
abbrev kept : ℤ → ℤ
kept z = to_z w128 (of_z w128 z)

-- a number as i64 keeps it
abbrev kept_short : ℤ → ℤ
kept_short z = to_z w64 (of_z w64 z)

-- no product of two parts is greater
abbrev IsProduct : ℤ → Type 0
IsProduct z = unsigned_abs z ≤ widest * widest

kept_product : (a : ℤ) → IsProduct a → kept a ≡ a
kept_product a h = omega (arith, ints)

kept_sum : (a b : ℤ) → IsProduct a → IsProduct b → kept (kept a +ℤ kept b) ≡ a +ℤ b
kept_sum a b h k = omega (arith, ints)

ratio_by_parts : (x : Ratio) (z : ℤ) (d : ℕ) → z ≡ x.num → d ≡ x.den → made z d ≡ x
ratio_by_parts x z d e f = ap (λ (n : ℤ). made n d) e ∙ ap (λ (k : ℕ). made x.num k) f

pub sum_is : (x y : Ratio) (a b : ℤ) (d : ℕ) → IsProduct a → IsProduct b → a ≡ x.num *ℤ pos y.den → b ≡ y.num *ℤ pos x.den → d ≡ x.den * y.den → made (kept (kept a +ℤ kept b)) d ≡ sum_of x y
sum_is x y a b d h k ea eb ed =
    let s = kept_sum a b h k in
    let p : a +ℤ b ≡ x.num *ℤ pos y.den +ℤ y.num *ℤ pos x.den = cc in
    ratio_by_parts (sum_of x y) _ d (cc) ed

pub product_is : (x y : Ratio) (a : ℤ) (d : ℕ) → IsProduct a → a ≡ x.num *ℤ y.num → d ≡ x.den * y.den → made (kept a) d ≡ product_of x y
product_is x y a d h ea ed =
    let s = kept_product a h in
    ratio_by_parts (product_of x y) _ d (cc) ed

kept_quotient : (n : ℤ) (g : ℕ) → unsigned_abs n ≤ widest → g ≤ widest → kept_short (quot_z (kept_short n) (to_z w64 g)) ≡ signed_as n (unsigned_abs n / g)
kept_quotient n g hn hg =
    let a : kept_short n ≡ n = omega (arith, ints) in
    let b : to_z w64 g ≡ pos g = omega (arith, ints) in
    ap (λ (z : ℤ). kept_short (quot_z z (to_z w64 g))) a ∙ ap (λ (z : ℤ). kept_short (quot_z n z)) b ∙ by_sign n hn
  where
    by_sign : (n : ℤ) → unsigned_abs n ≤ widest → kept_short (quot_z n (pos g)) ≡ signed_as n (unsigned_abs n / g)
    by_sign (pos n) h = let f = div-le_self n g in omega (arith, ints, f)
    by_sign (negsuc n) h = let f = div-le_self (suc n) g in omega (arith, ints, f)

pub quotients_are_narrow : (n : ℤ) (d a g : ℕ) → 0 < d → unsigned_abs n ≤ widest → d ≤ widest → a ≡ unsigned_abs (kept_short n) → g ≡ gcd a d → g ≤ d → IsNarrow (made (kept_short (quot_z (kept_short n) (to_z w64 g))) (d / g))
quotients_are_narrow n d a g h hn hd ea eg within =
    let k : kept_short n ≡ n = omega (arith, ints) in
    let b : g ≡ gcd (unsigned_abs n) d = cc in
    let q = kept_quotient n g hn (le_trans within hd) in
    subst (λ (z : ℤ). IsNarrow (made z (d / g))) (sym q)
    (subst (λ (k : ℕ). IsNarrow (made (signed_as n (unsigned_abs n / k)) (d / k))) (sym b) (low_is_narrow (made n d) h hn hd))
