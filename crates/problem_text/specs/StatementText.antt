-- The line of a statement.
use Rattle.std.specs.Prelude.{ℕ, List, [], ◌∷◌, ◌++◌, map, codes, decimal}
use Rattle.std.specs.List.{join_by}
use Rattle.statement_set.specs.declared.subtask.Subtask.{Subtask}
use Rattle.statement_set.specs.StatementTree.{StatementTree}
use Rattle.statement_set.specs.Problem.{Task}
use Rattle.problem_text.specs.VariableNames.{variable_name, vars_text}
use Rattle.problem_text.specs.BodyText.{body_in_braces}

-- a subtask: its inputs and its outputs, in brackets
abbrev pub subtask_text : Task → Subtask → List ℕ
subtask_text p u = codes "[" ++ (vars_text p u.inputs ++ (codes " -> " ++ (vars_text p u.outputs ++ codes "]")))

-- what a statement takes: its subtasks, and behind them its inputs
abbrev pub taken_texts : Task → StatementTree → List (List ℕ)
taken_texts p s = map (subtask_text p) s.subs ++ map (variable_name p) s.inputs

-- texts joined by commas, and a space behind them; nothing where there are none
abbrev pub spaced_list : List (List ℕ) → List ℕ
spaced_list [] = []
spaced_list (t ∷ ts) = join_by (λ x. x) (codes ", ") (t ∷ ts) ++ codes " "

-- the line of the statement of this number
abbrev pub statement_line : Task → ℕ → StatementTree → List ℕ
statement_line p n s =
    (codes "stmt " ++ (decimal n ++ codes " ")) ++ (spaced_list (taken_texts p s)
    ++ (codes "-> " ++ (variable_name p s.output
    ++ (body_in_braces (map (variable_name p) s.inputs) s.body ++ codes "\n"))))
