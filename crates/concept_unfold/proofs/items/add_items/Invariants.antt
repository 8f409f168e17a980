use Rattle.std.proofs.Common.{◌≡◌, ◌+◌, ◌≤◌, [], ◌++◌, length, map, drop}
use Rattle.std.specs.List.{flat_map, sum_by}
use Rattle.utopist_syntax.specs.FileTree.{item_tree}
use Rattle.concept_unfold.specs.Limits.{max_statements}
use Rattle.concept_unfold.specs.Declarations.{all_variables}
use Rattle.concept_unfold.specs.steps.Plain.{ItemsFollow}
use Rattle.concept_unfold.specs.UnfoldingRules.{item_statements}
use Rattle.concept_unfold.specs.Unfolded.{statements_of}
use Rattle.concept_unfold.proofs.items.add_items.Given as goal

-- the rest of the items follow the variables, and make the rest of the problem
abbrev pub invariant-loop-item : goal.invariant-loop-item
invariant-loop-item l = record {
  follows : ItemsFollow l.problem.names (map item_tree (drop l.item-index l.items));
  variables : l.problem.names ++ all_variables (map item_tree (drop l.item-index l.items)) ≡ all_variables (map item_tree l.items);
  statements : l.problem.statements ++ flat_map (statements_of (all_variables (map item_tree l.items))) (map item_tree (drop l.item-index l.items)) ≡ flat_map (statements_of (all_variables (map item_tree l.items))) (map item_tree l.items);
  equations : l.problem.equations ≡ [];
  room : length l.problem.statements + sum_by item_statements (map item_tree (drop l.item-index l.items)) ≤ max_statements;
  givens : l.problem.givens ≡ [];
  wants : l.problem.wants ≡ [];
}
