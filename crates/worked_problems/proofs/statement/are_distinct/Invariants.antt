use Rattle.std.proofs.Common.{take}
use Rattle.worked_problems.specs.Faults.{AreDistinct}
use Rattle.worked_problems.proofs.statement.are_distinct.Given as goal

abbrev pub invariant-loop-i : goal.invariant-loop-i
invariant-loop-i l = AreDistinct (take l.i l.numbers)
