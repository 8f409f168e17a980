use Rattle.std.proofs.Common.{◌+◌, ◌*◌, take, map}
use Rattle.utopist_syntax.specs.FileTree.{item_tree}
use Rattle.canonical_paths.specs.steps.Settings.{items_of_line}
use Rattle.concept_walk.specs.steps.Trails.{trail_path}
use Rattle.concept_walk.specs.Walks.{concepts_of}
use Rattle.concept_walk.specs.steps.Bringing.{Bring, visits_at, visits_of}
use Rattle.concept_walk.proofs.walk.+walk.Given as goal

-- the concept of a component inside has a smaller number
abbrev pub decreases-walk_component : goal.decreases-walk_component
decreases-walk_component l = 5 * l.component.now.concept + 4

abbrev pub decreases-walk_items : goal.decreases-walk_items
decreases-walk_items l = 5 * l.component.now.concept + 3

abbrev pub decreases-walk_item : goal.decreases-walk_item
decreases-walk_item l = 5 * l.component.now.concept + 2

abbrev pub decreases-walk_variables : goal.decreases-walk_variables
decreases-walk_variables l = 5 * l.component.now.concept + 1

abbrev pub decreases-walk_variable : goal.decreases-walk_variable
decreases-walk_variable l = 5 * l.component.now.concept

-- what the items so far bring
abbrev pub invariant-walk_component-loop-which : goal.invariant-walk_component-loop-which
invariant-walk_component-loop-which l =
    Bring l.walk (visits_at l.walk (trail_path l.component.trail.now) (items_of_line (concepts_of l.walk) (take l.which-index l.which-items))) l.fn.found l.found

abbrev pub invariant-walk_items-loop-item : goal.invariant-walk_items-loop-item
invariant-walk_items-loop-item l =
    Bring l.walk (visits_at l.walk (trail_path l.component.trail.now) (map item_tree (take l.item-index l.items))) l.fn.found l.found

abbrev pub invariant-walk_variables-loop-name : goal.invariant-walk_variables-loop-name
invariant-walk_variables-loop-name l =
    Bring l.walk (visits_of l.walk (trail_path l.component.trail.now) l.kind (take l.name-index l.names)) l.fn.found l.found
