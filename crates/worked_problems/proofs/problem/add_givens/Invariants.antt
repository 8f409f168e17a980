use Rattle.std.proofs.Common.{◌≡◌, map, take}
use Rattle.statement_set.specs.Worked.{is_given}
use Rattle.worked_problems.proofs.problem.add_givens.Given as goal

abbrev pub invariant-loop-given : goal.invariant-loop-given
invariant-loop-given l = l.problem ≡ record l.fn.problem { givens = map is_given (take l.given-index l.row.givens.now) }
