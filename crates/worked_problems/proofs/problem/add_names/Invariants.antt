use Rattle.std.proofs.Common.{◌≡◌, map, take}
use Rattle.statement_set.specs.Problem.{empty_task}
use Rattle.worked_problems.proofs.problem.add_names.Given as goal

abbrev pub invariant-loop-name : goal.invariant-loop-name
invariant-loop-name l = l.problem ≡ record empty_task { names = map (λ n. n.now) (take l.name-index l.row.names.now) }
