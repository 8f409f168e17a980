use Rattle.std.proofs.Common.{◌≡◌, ◌++◌, drop}
use Rattle.std.specs.Prelude.{codes}
use Rattle.std.specs.Io.{StartsWith}
use Rattle.std.specs.List.{join_by}
use Rattle.utopist_syntax.specs.ItemText.{part_text}
use Rattle.utopist_syntax.proofs.Joined.{left_by}
use Rattle.utopist_syntax.proofs.print_parts.print_list.Given as goal

abbrev pub invariant-loop-part : goal.invariant-loop-part
invariant-loop-part l = record {
  kept : StartsWith l.out.items l.fn.out.items;
  left : l.out.items ++ left_by part_text (codes ", ") l.first (drop l.part-index l.parts) ≡ l.fn.out.items ++ join_by part_text (codes ", ") l.parts;
}
