use Rattle.std.proofs.Common.{map, take}
use Rattle.utopist_syntax.specs.FileTree.{item_tree}
use Rattle.canonical_paths.specs.steps.Marks.{IsTypeOf, MarksMore}
use Rattle.canonical_paths.proofs.marks.mark_items.Given as goal

abbrev pub invariant-loop-item : goal.invariant-loop-item
invariant-loop-item l = MarksMore (IsTypeOf l.lineages.names (map item_tree (take l.item-index l.items))) l.fn.marks l.marks
