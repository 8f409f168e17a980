use Rattle.std.proofs.Common.{◌∙◌, ap}
use Rattle.priz_frac.specs.Outcome.{fitted}
use Rattle.priz_frac.proofs.Crossed.{crossed_is_lowest, crossed-low}
use Rattle.priz_frac.proofs.frac.crossed.Goals as goal

pub fit_product-requires : goal.fit_product-requires
fit_product-requires c =
    crossed_is_lowest c.args.x c.args.y c.over.result c.over-2.result c.over.ensures.value c.over-2.ensures.value c.over.ensures.lowest c.over-2.ensures.lowest

pub returns-clause-value : goal.returns-clause-value
returns-clause-value c =
    c.fit_product.ensures
    ∙ ap fitted (crossed-low c.args.x c.args.y c.over.result c.over-2.result c.over.ensures.value c.over-2.ensures.value c.over.ensures.lowest c.over-2.ensures.lowest)
