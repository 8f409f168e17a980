use Rattle.std.proofs.Common.{[], ap, ◌∙◌}
use Rattle.body_lang.specs.Equations.{Sides}
use Rattle.body_lang.specs.View.{body_tree}
use Rattle.equation_statements.specs.SolvingStatements.{variables_in, variables_on, firsts}
use Rattle.equation_statements.proofs.statements.variables_of.Goals as goal

pub returns : goal.returns
returns c =
    let first = c.in_ok-add_variables.ensures [] c.in_ok-variables.ensures in
    c.in_ok-add_variables-2.ensures (variables_in (body_tree c.equation.inside.left)) first
    ∙ ap (λ (e : Sides). firsts (variables_on e)) c.equation.view_is
