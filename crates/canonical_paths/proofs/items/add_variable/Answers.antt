use Rattle.std.proofs.Common.{◌≡◌, ◌∙◌, ◌+◌, ◌<◌, ℕ, [], List, Option, Some, None, ap, sym, subst, length, arith}
use Rattle.std.specs.Prelude.{Contains}
use Rattle.canonical_paths.specs.steps.Layouts.{HasOneMore}
use Rattle.canonical_paths.specs.steps.PathLists.{HasGrown, ForEachLists}
use Rattle.canonical_paths.specs.steps.Ready.{VariablesNext}
use Rattle.canonical_paths.proofs.OneVariable.{on_ok, number_has_grown}
use Rattle.canonical_paths.proofs.NextItems.{next_is_new, next_room}
use Rattle.canonical_paths.proofs.items.add_variable.Goals as goal

pub add-requires-clause-fresh : goal.add-requires-clause-fresh
add-requires-clause-fresh c =
    subst (λ (n : List ℕ). ¬ Contains c.args.so_far.now.names n) (sym c.text.ensures)
    (next_is_new c.args.layouts.now c.args.so_far.now c.args.name.now c.args.concept c.args.binds.now c.requires.next)

pub add-requires-clause-room : goal.add-requires-clause-room
add-requires-clause-room c =
    let room = next_room c.args.layouts.now c.args.so_far.now c.args.name.now c.args.concept c.args.binds.now c.requires.next in
    omega (arith, room)

pub returns-in-None : goal.returns-in-None
returns-in-None c =
    on_ok c.add.result _ _ c.add.ensures
    (λ more w lists.
    subst (λ (o : Option ℕ). HasGrown w c.args.layouts.now c.args.so_far.now c.add.new.self c.args.name.now.text o c.args.binds.now) (sym c.in-None.is)
    (number_has_grown w c.args.layouts.now c.args.so_far.now c.add.new.self c.args.name.now.text c.args.binds.now
    (subst (λ (n : List ℕ). HasOneMore c.args.so_far.now c.add.new.self n None [] []) c.text.ensures more)))
