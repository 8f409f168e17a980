use Rattle.std.proofs.Common.{◌∙◌, sym, ap}
use Rattle.priz_frac.specs.Arithmetic.{sum_of}
use Rattle.priz_frac.specs.Outcome.{fitted}
use Rattle.priz_frac.proofs.Lowest.{low-lowest}
use Rattle.priz_frac.proofs.Sums.{sum-lowest}
use Rattle.priz_frac.proofs.frac.Frac.add.Goals as goal

pub fit_sum-requires : goal.fit_sum-requires
fit_sum-requires c =
    let d = c.common_divisor-common.ensures in
    sum-lowest c.args.self c.args.other d.left d.right (sym d.value ∙ c.if-common-eq1.true)

pub returns-then-common-eq1 : goal.returns-then-common-eq1
returns-then-common-eq1 c =
    let d = c.common_divisor-common.ensures in
    c.fit_sum.ensures
    ∙ ap fitted (sym (low-lowest (sum_of c.args.self c.args.other) (sum-lowest c.args.self c.args.other d.left d.right (sym d.value ∙ c.if-common-eq1.true))))
