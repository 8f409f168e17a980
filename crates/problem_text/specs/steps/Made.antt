-- The end of a statement's line.
use Rattle.std.specs.Prelude.{ℕ, List, ◌++◌, map, codes}
use Rattle.statement_set.specs.StatementTree.{StatementTree}
use Rattle.statement_set.specs.Problem.{Task}
use Rattle.problem_text.specs.VariableNames.{variable_name}
use Rattle.problem_text.specs.BodyText.{body_in_braces}

-- what a statement makes: its output, and the body that says how
abbrev pub made_text : Task → StatementTree → List ℕ
made_text p s =
    codes "-> " ++ (variable_name p s.output ++ (body_in_braces (map (variable_name p) s.inputs) s.body ++ codes "\n"))
