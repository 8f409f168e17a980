use Rattle.std.proofs.Common.{◌≡◌, sym, subst, arith, ℤ, to_z, of_z}
use Rattle.std.proofs.lemmas.Int.{ints}
use mir.Syntax.{w64}
use Rattle.priz_frac.specs.Narrow.{IsNarrow}
use Rattle.priz_frac.specs.Whole.{whole}
use Rattle.priz_frac.proofs.Wholes.{whole_is_narrow}
use Rattle.priz_frac.proofs.frac.Frac.from_whole.Goals as goal

pub invariant_of-result : goal.invariant_of-result
invariant_of-result c =
    let kept : to_z w64 (of_z w64 c.args.n) ≡ c.args.n = omega (arith, ints) in
    subst (λ (z : ℤ). IsNarrow (whole z)) (sym kept) (whole_is_narrow c.args.n c.requires)
