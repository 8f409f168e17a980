use Rattle.std.proofs.Common.{◌≡◌, ◌∙◌, ◌+◌, ◌<◌, ap, sym, subst, refl, Some, Option, List, ℕ, arith, w32, Fits}
use Rattle.utopist_syntax.specs.Named.{Named}
use Rattle.name_sets.specs.Paths.{texts}
use Rattle.canonical_paths.specs.PathNames.{names_in}
use Rattle.canonical_paths.specs.Blocks.{IsBlock}
use Rattle.canonical_paths.specs.steps.Layouts.{inner_paths}
use Rattle.canonical_paths.specs.steps.PathLists.{IsSlotOf}
use Rattle.canonical_paths.proofs.OneVariable.{found}
use Rattle.canonical_paths.proofs.JoinedSides.{finds_right, right_below, right_is_all, all_stands, lists, laid_here, right_at}
use Rattle.canonical_paths.proofs.aliases.alias_of_all.Goals as goal

pub unwrap-right-requires : goal.unwrap-right-requires
unwrap-right-requires c =
    finds_right c.args.layouts.now c.args.so_far.now c.args.concept c.args.bind.now c.requires.next
    c.as_slice.result.now c.find.result c.as_slice.ensures c.find.ensures.known

pub overflow_add-result : goal.overflow_add-result
overflow_add-result c =
    let block = subst (λ (ns : List Named). IsSlotOf (lists c.args.layouts.now c.args.so_far.now c.args.concept c.args.bind.now c.requires.next) (texts ns) c.unwrap-right.result) c.as_slice.ensures
    (found c.find.result c.unwrap-right.result _
    (c.find.ensures.place (lists c.args.layouts.now c.args.so_far.now c.args.concept c.args.bind.now c.requires.next) (laid_here c.args.layouts.now c.args.so_far.now c.args.concept c.args.bind.now c.requires.next))
    c.unwrap-right.ensures) in
    let lt = right_at c.args.layouts.now c.args.so_far.now c.args.concept c.args.bind.now c.requires.next c.unwrap-right.result block in
    omega (arith, lt)

pub returns : goal.returns
returns c =
    λ w lists.
    let right = right_below c.args.layouts.now c.args.so_far.now c.args.concept c.args.bind.now c.requires.next
    c.as_slice.result.now c.find.result c.unwrap-right.result c.as_slice.ensures c.unwrap-right.ensures c.find.ensures.kind in
    let same = right_is_all c.args.layouts.now c.args.so_far.now c.args.concept c.args.bind.now c.requires.next c.unwrap-right.result c.requires.all right in
    all_stands w (inner_paths w.concepts (Some c.args.concept)) c.args.bind.now c.unwrap-right.result c.count_inside.result c.requires.all
    (subst (λ (k : Option ℕ). IsBlock w.paths c.unwrap-right.result.at (names_in c.args.bind.now.right) (inner_paths w.concepts k)) (sym same)
    (subst (λ (ns : List Named). IsSlotOf w (texts ns) c.unwrap-right.result) c.as_slice.ensures
    (found c.find.result c.unwrap-right.result _ (c.find.ensures.place w lists) c.unwrap-right.ensures)))
    (c.count_inside.ensures.count w.concepts lists.concepts)
