-- What a part of a body may name.
use Rattle.std.specs.Prelude.{ℕ, List, map}
use Rattle.statement_set.specs.Problem.{var_count, AreVars}
use Rattle.problem_text.specs.declared.scope.Scope.{Scope}
use Rattle.problem_text.specs.VariableNames.{variable_name}

-- the inputs are variables of the problem
abbrev pub HasVars : Scope → Type 0
HasVars s = AreVars (var_count s.problem.now) s.inputs.now

-- their names
abbrev pub names_of_inputs : Scope → List (List ℕ)
names_of_inputs s = map (variable_name s.problem.now) s.inputs.now
