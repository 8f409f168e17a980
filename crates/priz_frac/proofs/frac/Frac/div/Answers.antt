use Rattle.std.proofs.Common.{◌∙◌, ap, of_z}
use mir.Syntax.{w64}
use Rattle.priz_frac.specs.Ratio.{Ratio}
use Rattle.priz_frac.specs.Arithmetic.{product_of}
use Rattle.priz_frac.specs.Outcome.{narrow}
use Rattle.priz_frac.proofs.Inverse.{narrow_quotient-apart}
use Rattle.priz_frac.proofs.frac.Frac.div.Goals as goal

pub returns : goal.returns
returns c =
    c.crossed.ensures.value
    ∙ ap (λ (r : Ratio). narrow (product_of c.args.self r)) c.inverse.ensures
    ∙ narrow_quotient-apart c.args.self c.args.other c.crossed.ensures.lowest.positive
    (λ e. c.if-other-eq0.false (ap (of_z w64) (ap (λ (r : Ratio). r.num) c.other.view_is ∙ e)))
