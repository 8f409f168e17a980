use Rattle.body_lang.proofs.Inverses.{inverse_is_arithmetic, inverse_without, inverse_keeps, inverse_solves}
use Rattle.body_lang.proofs.equation_laws.inverses_solve_equations.Goals as goal

pub returns-clause-arithmetic : goal.returns-clause-arithmetic
returns-clause-arithmetic c = inverse_is_arithmetic

pub returns-clause-without : goal.returns-clause-without
returns-clause-without c = inverse_without

pub returns-clause-others : goal.returns-clause-others
returns-clause-others c = inverse_keeps

pub returns-clause-value : goal.returns-clause-value
returns-clause-value c = inverse_solves
