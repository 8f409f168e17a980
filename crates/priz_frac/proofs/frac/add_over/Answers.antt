use Rattle.std.proofs.Common.{◌≡◌, ◌∙◌, sym, ap, subst, arith, to_z, of_z}
use Rattle.std.proofs.Math.Nat.{mul-pos}
use Rattle.std.proofs.lemmas.Int.{ints}
use mir.Syntax.{w128}
use Rattle.priz_frac.specs.Ratio.{Ratio}
use Rattle.priz_frac.specs.Arithmetic.{sum_of}
use Rattle.priz_frac.specs.Lowest.{IsLowest}
use Rattle.priz_frac.specs.Narrow.{IsNarrow}
use Rattle.priz_frac.specs.Outcome.{fitted}
use Rattle.priz_frac.proofs.Lowest.{low_is_lowest}
use Rattle.priz_frac.proofs.Sums.{sum_by_common}
use Rattle.priz_frac.proofs.frac.add_over.Goals as goal

pub fit-requires : goal.fit-requires
fit-requires c =
    let x = subst IsNarrow c.x.view_is c.x.invariant in
    let y = subst IsNarrow c.y.view_is c.y.invariant in
    let t : to_z w128 (of_z w128 c.sum_across-sum.result) ≡ c.sum_across-sum.result = omega (arith, ints) in
    let e = sum_by_common c.args.x c.args.y _ _ _ _ _ _ _ x.lowest y.lowest (ap (λ (r : Ratio). r.den) c.x.view_is) (ap (λ (r : Ratio). r.den) c.y.view_is) c.requires.common (t ∙ c.sum_across-sum.ensures) c.unsigned_abs-size.ensures.value c.mixed_gcd_of-rest.ensures.value c.quotient.ensures in
    subst IsLowest e (low_is_lowest (sum_of c.args.x c.args.y) (mul-pos x.lowest.positive y.lowest.positive))

pub returns : goal.returns
returns c =
    let x = subst IsNarrow c.x.view_is c.x.invariant in
    let y = subst IsNarrow c.y.view_is c.y.invariant in
    let t : to_z w128 (of_z w128 c.sum_across-sum.result) ≡ c.sum_across-sum.result = omega (arith, ints) in
    let e = sum_by_common c.args.x c.args.y _ _ _ _ _ _ _ x.lowest y.lowest (ap (λ (r : Ratio). r.den) c.x.view_is) (ap (λ (r : Ratio). r.den) c.y.view_is) c.requires.common (t ∙ c.sum_across-sum.ensures) c.unsigned_abs-size.ensures.value c.mixed_gcd_of-rest.ensures.value c.quotient.ensures in
    c.fit.ensures ∙ ap fitted (sym e)
