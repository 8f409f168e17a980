use Rattle.std.proofs.Common.{◌∙◌, sym, ap, subst}
use Rattle.priz_frac.specs.Lowest.{IsLowest}
use Rattle.priz_frac.specs.Outcome.{fitted}
use Rattle.priz_frac.proofs.Kept.{product_is}
use Rattle.priz_frac.proofs.frac.fit_product.Goals as goal

pub fit_signed-requires : goal.fit_signed-requires
fit_signed-requires c =
    subst IsLowest (sym (product_is c.args.x c.args.y _ _ c.product_of_numerators.ensures.bound c.product_of_numerators.ensures.value c.common_denominator.ensures.value)) c.requires

pub returns : goal.returns
returns c =
    c.fit_signed.ensures
    ∙ ap fitted (product_is c.args.x c.args.y _ _ c.product_of_numerators.ensures.bound c.product_of_numerators.ensures.value c.common_denominator.ensures.value)
