use Rattle.std.proofs.Common.{◌≡◌, ◌++◌, take}
use Rattle.std.specs.Io.{StartsWith}
use Rattle.std.specs.List.{flat_map}
use Rattle.utopist_syntax.specs.ConceptText.{item_line}
use Rattle.utopist_syntax.proofs.print_concept.print_items.Given as goal

abbrev pub invariant-loop-item : goal.invariant-loop-item
invariant-loop-item l = record {
  kept : StartsWith l.out.items l.fn.out.items;
  so_far : l.out.items ≡ l.fn.out.items ++ flat_map item_line (take l.item-index l.items);
}
