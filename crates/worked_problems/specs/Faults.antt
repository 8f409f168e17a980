-- Why a problem is not well formed.
use Rattle.std.specs.Prelude.{◌≢◌, ◌<◌, length, List, All}
use Rattle.std.specs.List.{AllPairs}
use Rattle.statement_set.specs.Problem.{Task, var_count, given_vars, subtask_count, AreVars, IsStatementOver}
use Rattle.worked_problems.specs.declared.build_fault.BuildFault.{BuildFault}
use Rattle.worked_problems.specs.declared.build_fault.BuildFault.TheVariants.{NoMem, TooManyNames, NameTwice, TooManyStatements, TooManySubtasks, BadStatement, UnknownGiven, GivenTwice, UnknownWant}

-- no element stands twice
abbrev pub AreDistinct : {X : Type 0} → List X → Type 0
AreDistinct xs = AllPairs (λ x y. x ≢ y) xs

-- what of a well-formed problem fails; want of memory says nothing
abbrev pub IsFaultOf : BuildFault → Task → Type 0
IsFaultOf NoMem p = Unit {0}
IsFaultOf TooManyNames p = 1024 < var_count p
IsFaultOf NameTwice p = ¬ AreDistinct p.names
IsFaultOf TooManyStatements p = 4096 < length p.statements
IsFaultOf TooManySubtasks p = 255 < subtask_count p
IsFaultOf BadStatement p = ¬ All (IsStatementOver (var_count p)) p.statements
IsFaultOf UnknownGiven p = ¬ AreVars (var_count p) (given_vars p)
IsFaultOf GivenTwice p = ¬ AreDistinct (given_vars p)
IsFaultOf UnknownWant p = ¬ AreVars (var_count p) p.wants
