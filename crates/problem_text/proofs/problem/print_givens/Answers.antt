use Rattle.problem_text.proofs.Names.{given_is_var}
use Rattle.problem_text.proofs.problem.print_givens.Goals as goal

pub print_given-requires : goal.print_given-requires
print_given-requires c =
    given_is_var _ c.args.problem.now.givens c.givens-given-items.result.now c.loop-given.given-index c.given-item.result c.givens-given-items.ensures.list c.givens-given-items.ensures.vars c.loop-given-test.true c.given-item.is
