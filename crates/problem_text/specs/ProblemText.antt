-- The text of a problem.
use Rattle.std.specs.Prelude.{ℕ, suc, List, [], ◌∷◌, ◌++◌, length, codes, decimal}
use Rattle.std.specs.List.{flat_map}
use Rattle.utopist_syntax.specs.ComputeText.{value_text}
use Rattle.statement_set.specs.declared.given.Given.{Given}
use Rattle.statement_set.specs.Problem.{Task, var_count}
use Rattle.problem_text.specs.VariableNames.{variable_name, vars_text}
use Rattle.problem_text.specs.StatementText.{statement_line}

-- a line for each of these, which are numbered from n on
abbrev pub numbered_lines : {X : Type 0} → (ℕ → X → List ℕ) → ℕ → List X → List ℕ
numbered_lines line n [] = []
numbered_lines line n (x ∷ xs) = line n x ++ numbered_lines line (suc n) xs

-- how much there is in the problem of the compute statement of this number, which counts from 1
abbrev pub counts_line : Task → ℕ → List ℕ
counts_line p index =
    (codes "compute " ++ (decimal index ++ codes ": ")) ++ ((decimal (var_count p) ++ codes " variables, ")
    ++ (decimal (length p.statements) ++ codes " statements\n"))

-- a variable with its number
abbrev pub var_line : ℕ → List ℕ → List ℕ
var_line n name = codes "var " ++ (decimal n ++ (codes " " ++ (name ++ codes "\n")))

-- what is given, with its value if it has one
abbrev pub given_line : Task → Given → List ℕ
given_line p g = codes "given " ++ (variable_name p g.var ++ (value_text g.value ++ codes "\n"))

-- what is wanted
abbrev pub find_line : Task → List ℕ
find_line p = codes "find " ++ (vars_text p p.wants ++ codes "\n")

-- its variables, its statements, what is given and what is wanted
abbrev pub problem_text : Task → ℕ → List ℕ
problem_text p index =
    counts_line p index ++ (numbered_lines var_line 0 p.names
    ++ (numbered_lines (statement_line p) 0 p.statements
    ++ (flat_map (given_line p) p.givens ++ find_line p)))
