use Rattle.std.proofs.Common.{◌≡◌, ◌++◌, drop}
use Rattle.std.specs.Prelude.{codes}
use Rattle.std.specs.Io.{StartsWith}
use Rattle.std.specs.List.{join_by}
use Rattle.utopist_syntax.specs.ItemText.{bind_text}
use Rattle.utopist_syntax.proofs.Joined.{left_by}
use Rattle.utopist_syntax.proofs.print_binds.print_list.Given as goal

abbrev pub invariant-loop-bind : goal.invariant-loop-bind
invariant-loop-bind l = record {
  kept : StartsWith l.out.items l.fn.out.items;
  left : l.out.items ++ left_by bind_text (codes ", ") l.first (drop l.bind-index l.binds) ≡ l.fn.out.items ++ join_by bind_text (codes ", ") l.binds;
}
