use Rattle.std.proofs.Common.{◌≡◌, ◌++◌, drop}
use Rattle.std.specs.Io.{StartsWith}
use Rattle.utopist_syntax.specs.View.{trees_of}
use Rattle.utopist_syntax.specs.ExprText.{args_text}
use Rattle.utopist_syntax.proofs.Joined.{left_args}
use Rattle.utopist_syntax.proofs.print_tree.+expr.Given as goal

abbrev pub invariant-print_args-loop-arg : goal.invariant-print_args-loop-arg
invariant-print_args-loop-arg l = record {
  kept : StartsWith l.out.items l.fn.out.items;
  left : l.out.items ++ left_args l.first (trees_of (drop l.arg-index l.args)) ≡ l.fn.out.items ++ args_text (trees_of l.args);
}
