use Rattle.equation_statements.proofs.Solving.{all_solving}
use Rattle.equation_statements.proofs.laws.statements_solve_their_equation.Goals as goal

pub returns : goal.returns
returns c = all_solving
