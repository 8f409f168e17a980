use Rattle.std.proofs.Common.{rules, ◌≡◌, ◌++◌, ◌∷◌, [], ◌<◌, Contains, Some, slice_get, OnOk, ℕ, ◌+◌, ◌-◌, ◌*◌, ◌≤◌, length, ◌/◌, ◌%◌, Bool, true, false, nat_eq, nat_lt, List, slice_index_or, slice_set, bit_and, bit_or, Fits, w8, w32, w64, Bor, MutBor}
use Rattle.statement_set.specs.Problem.{var_count}
use Rattle.utopist_syntax.specs.FileTree.{item_tree}
use Rattle.concept_walk.specs.Limits.{max_variables}
use Rattle.concept_walk.specs.Dotted.{dotted}
use Rattle.concept_walk.specs.Visits.{Visit, variable}
use Rattle.concept_walk.specs.steps.Trails.{trail_path}
use Rattle.concept_walk.specs.Walks.{IsWalk, Stops, items_in, paths_in, visited_item}
use Rattle.concept_walk.specs.steps.Bringing.{IsComponent, AreNext, Bring, visits_at}
use Rattle.concept_walk.proofs.Adding.{is_fresh, adds}
use Rattle.concept_walk.proofs.found.add_variable.Goals as goal

-- src/found.rt:66:5
pub note_variable-requires-clause-fresh : goal.note_variable-requires-clause-fresh
note_variable-requires-clause-fresh c =
    is_fresh c.args.walk.now (trail_path c.args.component.now.trail.now ++ c.args.name.now.text ∷ [])
    c.requires.walk c.args.found.now c.requires.next

-- src/found.rt:44:1
pub returns-clause-visits : goal.returns-clause-visits
returns-clause-visits c =
    adds c.args.walk.now (trail_path c.args.component.now.trail.now ++ c.args.name.now.text ∷ []) c.args.number c.requires.number
    c.args.found.now c.note_variable.new.found c.in_ok-note_variable.ensures.problem c.in_ok-note_variable.ensures.variables c.in_ok-note_variable.ensures.items
