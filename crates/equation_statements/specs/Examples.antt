-- The statements of small equations, worked out by hand.
use Rattle.std.specs.Prelude.{◌≡◌, ℕ, List, [], ◌∷◌, Some}
use Rattle.body_lang.specs.declared.op.Op.TheVariants.{Add, Mul, Sub, Div}
use Rattle.body_lang.specs.BodyTree as body
use Rattle.body_lang.specs.BodyTree.{BodyTree}
use Rattle.body_lang.specs.Equations.{Sides}
use Rattle.statement_set.specs.declared.statement.Statement.{Statement}
use Rattle.equation_statements.specs.SolvingStatements.{solving_statements}

-- a statement without subtasks
abbrev pub plain : List ℕ → ℕ → BodyTree → Statement
plain inputs output body = record { inputs = inputs; subs = []; output = output; body = Some body }

-- (a - b) / c = -d
abbrev pub quotient : Sides
quotient = record {
  left = body.op Div (body.op Sub (body.input 0) (body.input 1)) (body.input 2);
  right = body.neg (body.input 3);
}

-- is solved for each, and the inputs stand as they do in the equation
abbrev pub QuotientIsSolvedForEach : Type 0
QuotientIsSolvedForEach =
    solving_statements quotient
    ≡ plain (1 ∷ 2 ∷ 3 ∷ []) 0 (body.op Add (body.op Mul (body.neg (body.input 2)) (body.input 1)) (body.input 0))
    ∷ plain (0 ∷ 2 ∷ 3 ∷ []) 1 (body.op Sub (body.input 0) (body.op Mul (body.neg (body.input 2)) (body.input 1)))
    ∷ plain (0 ∷ 1 ∷ 3 ∷ []) 2 (body.op Div (body.op Sub (body.input 0) (body.input 1)) (body.neg (body.input 2)))
    ∷ plain (0 ∷ 1 ∷ 2 ∷ []) 3 (body.neg (body.op Div (body.op Sub (body.input 0) (body.input 1)) (body.input 2)))
    ∷ []

-- y = x * x, which x stands in twice, is solved for y alone
abbrev pub SquareIsSolvedForOne : Type 0
SquareIsSolvedForOne =
    solving_statements (record { left = body.input 7; right = body.op Mul (body.input 5) (body.input 5) })
    ≡ plain (5 ∷ []) 7 (body.op Mul (body.input 0) (body.input 0)) ∷ []
