-- When the wants of a problem can be derived.
use Rattle.std.specs.Prelude.{ℕ, List, ◌++◌, map, All}
use Rattle.statement_set.specs.Problem.{Task, given_vars}
use Rattle.statement_set.specs.Formula.{Formula, atom, atoms, statement_formula}
use Rattle.statement_set.specs.Derivation.{Follows}

-- what a derivation may assume where G is given: the formulas of all statements, and G
abbrev pub hypotheses_from : Task → List ℕ → List Formula
hypotheses_from p G = map statement_formula p.statements ++ atoms G

-- what a derivation may assume in the problem
abbrev pub hypotheses : Task → List Formula
hypotheses p = hypotheses_from p (given_vars p)

-- each want follows where G is given
abbrev pub IsDerivableFrom : Task → List ℕ → Type 0
IsDerivableFrom p G = All (λ w. Follows (hypotheses_from p G) (atom w)) p.wants

-- each want follows
abbrev pub IsDerivable : Task → Type 0
IsDerivable p = IsDerivableFrom p (given_vars p)
