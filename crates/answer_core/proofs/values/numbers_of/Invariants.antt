use Rattle.std.proofs.Common.{◌≡◌, take}
use Rattle.answer_core.specs.Values.{AreNumbers}
use Rattle.answer_core.proofs.values.numbers_of.Given as goal

abbrev pub invariant-loop-given : goal.invariant-loop-given
invariant-loop-given l = record {
  all : l.problem.givens ≡ l.given-items;
  numbers : AreNumbers (take l.given-index l.given-items) l.numbers.items;
}
