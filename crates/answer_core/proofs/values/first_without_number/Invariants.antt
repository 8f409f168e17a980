use Rattle.std.proofs.Common.{◌≡◌, drop}
use Rattle.answer_core.specs.Values.{first_without_number}
use Rattle.answer_core.proofs.values.first_without_number.Given as goal

-- the first stands among the givens that are left
abbrev pub invariant-loop-given : goal.invariant-loop-given
invariant-loop-given l = first_without_number l.problem.givens ≡ first_without_number (drop l.given-index l.given-items)
