use Rattle.std.proofs.Common.{◌≡◌, ◌++◌, drop}
use Rattle.std.specs.Prelude.{codes}
use Rattle.std.specs.Io.{StartsWith}
use Rattle.std.specs.List.{join_by}
use Rattle.utopist_syntax.specs.ComputeText.{given_text}
use Rattle.utopist_syntax.proofs.Joined.{left_by}
use Rattle.utopist_syntax.proofs.print_compute.print_list.Given as goal

abbrev pub invariant-loop-given : goal.invariant-loop-given
invariant-loop-given l = record {
  kept : StartsWith l.out.items l.fn.out.items;
  left : l.out.items ++ left_by given_text (codes ", ") l.first (drop l.given-index l.givens) ≡ l.fn.out.items ++ join_by given_text (codes ", ") l.givens;
}
