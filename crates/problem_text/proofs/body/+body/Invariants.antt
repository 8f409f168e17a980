use Rattle.std.proofs.Common.{◌≡◌, ◌++◌, drop}
use Rattle.std.specs.Io.{StartsWith}
use Rattle.body_lang.specs.View.{body_trees}
use Rattle.problem_text.specs.BodyText.{arguments_at}
use Rattle.problem_text.specs.steps.Scopes.{names_of_inputs}
use Rattle.problem_text.proofs.Joined.{left_arguments}
use Rattle.problem_text.proofs.body.+body.Given as goal

abbrev pub invariant-print_arguments-loop-arg : goal.invariant-print_arguments-loop-arg
invariant-print_arguments-loop-arg l = record {
  kept : StartsWith l.out.items l.fn.out.items;
  left : l.out.items ++ left_arguments (names_of_inputs l.scope) l.scope.rounds l.first (body_trees (drop l.arg-index l.args)) ≡ l.fn.out.items ++ arguments_at (names_of_inputs l.scope) l.scope.rounds (body_trees l.args);
}
