use Rattle.std.proofs.Common.{◌≡◌, take}
use Rattle.worked_problems.proofs.statement.vars_of.Given as goal

abbrev pub invariant-loop-number : goal.invariant-loop-number
invariant-loop-number l = l.vars ≡ take l.number-index l.numbers
