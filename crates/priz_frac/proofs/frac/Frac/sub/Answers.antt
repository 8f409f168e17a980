use Rattle.std.proofs.Common.{◌∙◌, sym, ap}
use Rattle.priz_frac.specs.Ratio.{Ratio}
use Rattle.priz_frac.specs.Arithmetic.{sum_of}
use Rattle.priz_frac.specs.Outcome.{narrow}
use Rattle.priz_frac.proofs.Operations.{difference_is_sum}
use Rattle.priz_frac.proofs.frac.Frac.sub.Goals as goal

pub returns : goal.returns
returns c =
    c.add.ensures
    ∙ ap (λ (r : Ratio). narrow (sum_of c.args.self r)) c.neg.ensures
    ∙ ap narrow (sym (difference_is_sum c.args.self c.args.other))
