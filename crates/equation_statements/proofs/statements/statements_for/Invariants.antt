use Rattle.std.proofs.Common.{◌≡◌, map, take}
use Rattle.std.specs.List.{filter}
use Rattle.equation_statements.specs.SolvingStatements.{solving_statement}
use Rattle.equation_statements.proofs.Solving.{stands_once}
use Rattle.equation_statements.proofs.statements.statements_for.Given as goal

-- the statements of the variables that were met
abbrev pub invariant-loop-v : goal.invariant-loop-v
invariant-loop-v l =
    l.statements ≡ map (solving_statement l.equation) (filter (stands_once l.equation) (take l.v-index l.variables))
