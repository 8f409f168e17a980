use Rattle.std.proofs.Common.{◌≡◌, map, take}
use Rattle.worked_problems.specs.Rows.{row_statement}
use Rattle.worked_problems.proofs.problem.add_statements.Given as goal

abbrev pub invariant-loop-statement : goal.invariant-loop-statement
invariant-loop-statement l = l.problem ≡ record l.fn.problem { statements = map row_statement (take l.statement-index l.row.statements.now) }
