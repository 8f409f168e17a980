use Rattle.std.proofs.Common.{◌≡◌, ◌++◌, take}
use Rattle.std.specs.List.{flat_map}
use Rattle.problem_text.specs.ProblemText.{given_line}
use Rattle.problem_text.proofs.problem.print_givens.Given as goal

abbrev pub invariant-loop-given : goal.invariant-loop-given
invariant-loop-given l = l.out.items ≡ l.fn.out.items ++ flat_map (given_line l.problem) (take l.given-index l.problem.givens)
