use Rattle.std.proofs.Common.{◌≡◌, ap, subst, arith, ℕ, pos, to_z, of_z}
use Rattle.std.specs.Prelude.{unsigned_abs, int_lt}
use Rattle.std.proofs.lemmas.Int.{ints}
use mir.Syntax.{w64}
use Rattle.priz_frac.specs.Ratio.{Ratio}
use Rattle.priz_frac.specs.Narrow.{IsNarrow}
use Rattle.priz_frac.specs.Sign.{signed_number}
use Rattle.priz_frac.proofs.Inverse.{inverse_is_narrow, inverse_parts}
use Rattle.priz_frac.proofs.Lowest.{made}
use Rattle.priz_frac.proofs.frac.inverse.Goals as goal

pub invariant_of-result : goal.invariant_of-result
invariant_of-result c =
    let n : to_z w64 (of_z w64 c.x.inside.num) ≡ c.x.inside.num = omega (arith, ints) in
    let d : to_z w64 (of_z w64 c.den.result) ≡ c.den.result = omega (arith, ints) in
    let r : to_z w64 (of_z w64 c.with_sign-num.result) ≡ c.with_sign-num.result = omega (arith, ints) in
    let v = ap (λ (r : Ratio). r.num) c.x.view_is in
    let f : to_z w64 (of_z w64 c.with_sign-num.result) ≡ signed_number (int_lt c.args.x.num (pos 0)) (pos c.args.x.den) = cc (c.den.ensures.value) in
    let a : unsigned_abs c.args.x.num ≡ c.unsigned_abs.result = cc in
    subst (λ (m : ℕ). IsNarrow (made (to_z w64 (of_z w64 c.with_sign-num.result)) m)) a
    (subst IsNarrow (inverse_parts c.args.x _ f) (inverse_is_narrow c.args.x c.requires c.den.ensures.narrow))
