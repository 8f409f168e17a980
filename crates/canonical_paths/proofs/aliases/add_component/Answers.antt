use Rattle.std.proofs.Common.{◌≡◌, ◌∙◌, ◌+◌, ◌<◌, ℕ, List, ap, sym, subst, refl, Option, Some, [], length, arith}
use Rattle.std.specs.Prelude.{slice_get, Contains, ◌≤◌}
use Rattle.std.proofs.lemmas.Option.{slice_get-get_or}
use Rattle.std.specs.Option.{option_map_or}
use Rattle.canonical_paths.specs.Limits.{max_declared}
use Rattle.canonical_paths.specs.LaidOut.{LaidOut}
use Rattle.canonical_paths.specs.steps.Layouts.{inner_paths, inner_table, HasOneMore}
use Rattle.canonical_paths.specs.steps.PathLists.{PathLists, HaveLayouts, AreAliasesOf, HasGrown}
use Rattle.canonical_paths.proofs.OneVariable.{on_ok, entries_are, aliases_are, has_grown}
use Rattle.canonical_paths.proofs.AliasesStand.{is_there}
use Rattle.canonical_paths.proofs.NextItems.{next_binds, next_is_new, next_lists, next_laid, next_room}
use Rattle.canonical_paths.proofs.aliases.add_component.Goals as goal

pub aliases_of-requires-clause-next : goal.aliases_of-requires-clause-next
aliases_of-requires-clause-next c = next_binds c.args.layouts.now c.args.so_far.now c.args.name.now c.args.concept c.args.binds.now c.requires.next

here : (c : goal.After-table) → slice_get c.args.layouts.now c.args.concept ≡ Some c.index-layouts-concept.result
here c = is_there c.args.layouts.now c.args.concept c.index-layouts-concept.result (Some c.args.concept) c.requires.next.are.number.below refl c.index-layouts-concept.is

pub add-requires-clause-fresh : goal.add-requires-clause-fresh
add-requires-clause-fresh c =
    subst (λ (n : List ℕ). ¬ Contains c.args.so_far.now.names n) (sym c.text.ensures)
    (next_is_new c.args.layouts.now c.args.so_far.now c.args.name.now (Some c.args.concept) c.args.binds.now c.requires.next)

pub add-requires-clause-room : goal.add-requires-clause-room
add-requires-clause-room c =
    let room = next_room c.args.layouts.now c.args.so_far.now c.args.name.now (Some c.args.concept) c.args.binds.now c.requires.next in
    let same : length c.table.result.now ≡ length (inner_table c.args.layouts.now (Some c.args.concept)) =
    ap length (c.table.ensures ∙ sym (ap (λ (o : Option LaidOut). option_map_or (λ v. v.table) o []) (here c))) in
    omega (arith, room, same)

pub add-requires-clause-inside : goal.add-requires-clause-inside
add-requires-clause-inside c =
    let w = next_lists c.args.layouts.now c.args.so_far.now c.args.name.now (Some c.args.concept) c.args.binds.now c.requires.next in
    let lists = next_laid c.args.layouts.now c.args.so_far.now c.args.name.now (Some c.args.concept) c.args.binds.now c.requires.next in
    entries_are w c.args.layouts.now c.args.so_far.now c.index-layouts-concept.result c.args.concept c.table.result.now lists c.requires.closed (here c) c.table.ensures

pub add-requires-clause-aliases : goal.add-requires-clause-aliases
add-requires-clause-aliases c =
    let w = next_lists c.args.layouts.now c.args.so_far.now c.args.name.now (Some c.args.concept) c.args.binds.now c.requires.next in
    let lists = next_laid c.args.layouts.now c.args.so_far.now c.args.name.now (Some c.args.concept) c.args.binds.now c.requires.next in
    aliases_are w c.args.layouts.now c.args.so_far.now c.index-layouts-concept.result c.args.concept c.table.result.now lists c.requires.closed (here c) c.table.ensures
    c.args.binds.now c.in_ok-aliases.aliases.items c.as_slice.result.now c.as_slice.ensures.value (c.in_ok-aliases.ensures w lists)

pub returns : goal.returns
returns c =
    on_ok c.add.result _ _ c.add.ensures
    (λ more w lists.
    let there : slice_get c.args.layouts.now c.args.concept ≡ Some c.index-layouts-concept.result =
    is_there c.args.layouts.now c.args.concept c.index-layouts-concept.result (Some c.args.concept) c.requires.next.are.number.below refl c.index-layouts-concept.is in
    has_grown w c.args.layouts.now c.args.so_far.now c.index-layouts-concept.result c.args.concept c.table.result.now lists c.requires.closed there c.table.ensures
    c.args.name.now.text c.args.binds.now c.in_ok-aliases.aliases.items c.as_slice.result.now c.add.new.self c.as_slice.ensures.value
    (c.in_ok-aliases.ensures w lists)
    (subst (λ (n : List ℕ). HasOneMore c.args.so_far.now c.add.new.self n (Some c.args.concept) c.as_slice.result.now c.table.result.now) c.text.ensures more))
