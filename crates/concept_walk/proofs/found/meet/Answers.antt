use Rattle.std.proofs.Common.{rules, arith, ◌≡◌, ◌++◌, ◌∷◌, [], ◌<◌, Contains, Some, slice_get, OnOk, ℕ, ◌+◌, ◌-◌, ◌*◌, ◌≤◌, length, ◌/◌, ◌%◌, Bool, true, false, nat_eq, nat_lt, List, slice_index_or, slice_set, bit_and, bit_or, Fits, w8, w32, w64, Bor, MutBor}
use Rattle.statement_set.specs.Problem.{var_count}
use Rattle.utopist_syntax.specs.FileTree.{item_tree}
use Rattle.concept_walk.specs.Limits.{max_variables}
use Rattle.concept_walk.specs.Dotted.{dotted}
use Rattle.concept_walk.specs.Visits.{Visit, variable}
use Rattle.concept_walk.specs.steps.Trails.{trail_path}
use Rattle.concept_walk.specs.Walks.{IsWalk, Stops, items_in, paths_in, visited_item}
use Rattle.concept_walk.specs.steps.Bringing.{IsComponent, AreNext, Bring, visits_at}
use Rattle.concept_walk.proofs.Meeting.{is_item, meets, passes}
use Rattle.concept_walk.proofs.found.meet.Goals as goal

-- src/found.rt:94:1
pub returns-in_ok-push : goal.returns-in_ok-push
returns-in_ok-push c = λ v is.
    meets c.args.walk.now c.args.found.now c.push.new.self v _
    (record { at = trail_path c.args.component.now.trail.now; place = c.requires.component; own = c.requires.own; is = is })
    (is_item (trail_path c.args.component.now.trail.now) (item_tree c.args.item.now) v is)
    (let t = c.if-len-le-MAX_ITEMS.true in let e = c.len.ensures in omega (arith, t, e)) c.in_ok-push.ensures.ok

-- src/found.rt:94:1
pub returns-else-len-le-MAX_ITEMS : goal.returns-else-len-le-MAX_ITEMS
returns-else-len-le-MAX_ITEMS c = λ v is.
    passes c.args.walk.now c.args.found.now v (is_item (trail_path c.args.component.now.trail.now) (item_tree c.args.item.now) v is)
    (let t = c.if-len-le-MAX_ITEMS.false in let e = c.len.ensures in omega (arith, t, e))
