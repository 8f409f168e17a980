use Rattle.std.proofs.Common.{◌≡◌, length}
use Rattle.walk_variables.proofs.Placing.{AreAt}
use Rattle.walk_variables.proofs.numbers.numbers_of.Given as goal

-- the numbers so far
abbrev pub invariant-loop-var : goal.invariant-loop-var
invariant-loop-var l = record {
  count : length l.numbers.items ≡ l.count;
  filled : AreAt l.walked.variables l.var l.numbers.items;
}
