use Rattle.equation_statements.proofs.Solving.{list_over}
use Rattle.equation_statements.proofs.statements.statements_of.Goals as goal

pub returns-clause-over : goal.returns-clause-over
returns-clause-over c = λ n over.
    list_over c.args.equation.now n over c.statements_for.result c.statements_for.ensures
