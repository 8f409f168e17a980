use Rattle.std.proofs.Common.{map, take}
use Rattle.utopist_syntax.specs.FileTree.{item_tree}
use Rattle.canonical_paths.specs.steps.Ready.{TakesItems}
use Rattle.canonical_paths.proofs.items.add_items.Given as goal

abbrev pub invariant-loop-item : goal.invariant-loop-item
invariant-loop-item l = TakesItems l.lineages.names l.layouts l.fn.so_far l.so_far (map item_tree (take l.item-index l.items))
