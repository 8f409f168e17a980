use Rattle.std.proofs.Common.{subst}
use Rattle.body_lang.proofs.Arithmetic.{SidesAreNarrow, narrow_sides}
use Rattle.equation_invert.proofs.Solved.{answer_without, answer_solves}
use Rattle.equation_invert.proofs.solving.invert.Goals as goal

pub returns-clause-without : goal.returns-clause-without
returns-clause-without c = answer_without c.args.v c.args.equation.now c.requires c.solve.result c.solve.ensures

pub returns-clause-value : goal.returns-clause-value
returns-clause-value c =
    let e = c.args.equation.now in
    let narrow = subst SidesAreNarrow c.equation.view_is (c.numbers_are_narrow.ensures, c.numbers_are_narrow-2.ensures) in
    answer_solves c.args.v e c.requires (narrow_sides e c.requires narrow) c.solve.result c.solve.ensures
