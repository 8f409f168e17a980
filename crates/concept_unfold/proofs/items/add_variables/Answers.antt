use Rattle.std.proofs.Common.{◌+◌, ℕ, List, [], ◌∷◌, ◌++◌, refl, ap, ◌∙◌}
use Rattle.statement_set.specs.Problem.{Task}
use Rattle.name_sets.specs.Paths.{texts}
use Rattle.concept_unfold.proofs.Following.{fresh_here}
use Rattle.concept_unfold.proofs.Progress.{name_step, gathered_more}
use Rattle.concept_unfold.proofs.Room.{room_for_one}
use Rattle.concept_unfold.proofs.items.add_variables.Goals as goal

pub add_var-requires-clause-room : goal.add_var-requires-clause-room
add_var-requires-clause-room c =
    room_for_one c.loop-name.problem.names c.args.problem.now.names c.args.names.now c.loop-name.name-index c.loop-name-test.true c.loop-name.invariant.names c.requires.room

pub add_var-requires-clause-fresh : goal.add_var-requires-clause-fresh
add_var-requires-clause-fresh c =
    rw c.text.ensures (fresh_here c.loop-name.problem.names c.args.names.now c.loop-name.name-index c.name-item.result c.loop-name-test.true c.name-item.is c.loop-name.invariant.fresh).0

pub loop-name-preserved : goal.loop-name-preserved
loop-name-preserved c =
    let ns = c.args.names.now in
    let i = c.loop-name.name-index in
    let n = c.name-item.result in
    let start = c.args.problem.now in
    let old = c.loop-name.problem in
    let new = c.add_var.new.self in
    let lt = c.loop-name-test.true in
    let is = c.name-item.is in
    let so_far = c.loop-name.invariant in
    let added = c.in_ok-add_var.ensures.ok ∙ ap (λ (t : List ℕ). record old { names = old.names ++ t ∷ [] }) c.text.ensures in
    let names = ap (λ (p : Task). p.names) added in
    record {
      same = name_step start old new (old.names ++ n.text ∷ []) so_far.same added;
      names = gathered_more texts ns i n old.names new.names (n.text ∷ []) (start.names ++ texts ns) lt is refl so_far.names names;
      fresh = rw names (fresh_here old.names ns i n lt is so_far.fresh).1;
    }
