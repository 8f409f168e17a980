use Rattle.std.proofs.Common.{◌≡◌, ap, subst}
use Rattle.priz_frac.specs.Ratio.{Ratio}
use Rattle.priz_frac.specs.Narrow.{IsNarrow}
use Rattle.priz_frac.proofs.Operations.{order-same_den}
use Rattle.priz_frac.proofs.frac.Frac.cmp.Goals as goal

pub returns-then-self-other : goal.returns-then-self-other
returns-then-self-other c =
    let x = subst IsNarrow c.self.view_is c.self.invariant in
    let n = ap (λ (r : Ratio). r.num) c.self.view_is in
    let m = ap (λ (r : Ratio). r.num) c.other.view_is in
    let d = ap (λ (r : Ratio). r.den) c.self.view_is in
    let e = ap (λ (r : Ratio). r.den) c.other.view_is in
    let f : c.args.self.den ≡ c.args.other.den = cc in
    let g = order-same_den c.args.self c.args.other x.lowest.positive f in
    cc
