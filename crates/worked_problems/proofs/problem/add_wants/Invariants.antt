use Rattle.std.proofs.Common.{◌≡◌, take}
use Rattle.worked_problems.proofs.problem.add_wants.Given as goal

abbrev pub invariant-loop-want : goal.invariant-loop-want
invariant-loop-want l = l.problem ≡ record l.fn.problem { wants = take l.want-index l.row.wants.now }
