-- What an equation says of each of its statements.
use Rattle.std.specs.Prelude.{◌≡◌, ◌==◌, [], Some}
use Rattle.std.specs.List.{position_or_len}
use Rattle.body_lang.specs.Equations.{Sides}
use Rattle.body_lang.specs.ExactValue.{SolvesFor}
use Rattle.body_lang.specs.Inverse.{inverse, solved}
use Rattle.statement_set.specs.declared.statement.Statement.{Statement}
use Rattle.equation_statements.specs.SolvingStatements.{renumbered, others}

-- its body is the inverse of the equation, over the equation's other variables by their places, and the inverse has the
-- output's value in each row in which the equation holds and the inverse has a value
pub record IsSolvingStatement (e : Sides) (s : Statement) : Type 0 where
  pub inverse_is : inverse s.output e ≡ Some (solved s.output e)
  pub body : s.body ≡ Some (renumbered (λ w. position_or_len (λ u. u == w) s.inputs) (solved s.output e))
  pub inputs : s.inputs ≡ others s.output e
  pub subs : s.subs ≡ []
  pub value : SolvesFor e s.output (solved s.output e)
