use Rattle.std.proofs.Common.{◌≡◌, ◌-◌, ◌^◌, length, take, min}
use Rattle.std.specs.List.{sum_by}
use Rattle.utopist_syntax.specs.declared.item.Item.{Item}
use Rattle.utopist_syntax.specs.FileTree.{item_tree}
use Rattle.concept_unfold.specs.Declarations.{variables}
use Rattle.concept_unfold.specs.UnfoldingRules.{item_size, item_statements}
use Rattle.concept_unfold.proofs.limits.count.Given as goal

abbrev pub invariant-loop-item : goal.invariant-loop-item
invariant-loop-item l = record {
  variables : l.variables ≡ min (sum_by (λ (i : Item). length (variables (item_tree i))) (take l.item-index l.items)) (2 ^ 64 - 1);
  size : l.size ≡ min (sum_by (λ (i : Item). item_size (item_tree i)) (take l.item-index l.items)) (2 ^ 64 - 1);
  statements : l.statements ≡ min (sum_by (λ (i : Item). item_statements (item_tree i)) (take l.item-index l.items)) (2 ^ 64 - 1);
}
