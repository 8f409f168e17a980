-- The names of a problem's variables.
use Rattle.std.specs.Prelude.{ℕ, List, [], codes, slice_index_or}
use Rattle.std.specs.List.{join_by}
use Rattle.statement_set.specs.Problem.{Task}

-- the name of a variable
abbrev pub variable_name : Task → ℕ → List ℕ
variable_name p v = slice_index_or p.names v []

-- the names of variables, joined by commas
abbrev pub vars_text : Task → List ℕ → List ℕ
vars_text p vs = join_by (variable_name p) (codes ", ") vs
