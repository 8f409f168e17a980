use Rattle.std.proofs.Common.{◌≡◌, ◌∙◌, ap, sym, subst, refl, Some, List}
use Rattle.std.specs.Prelude.{slice_get}
use Rattle.std.proofs.lemmas.Option.{slice_get-get_or}
use Rattle.utopist_syntax.specs.Named.{Named}
use Rattle.name_sets.specs.Paths.{texts}
use Rattle.canonical_paths.specs.LaidOut.{LaidOut}
use Rattle.canonical_paths.specs.steps.Layouts.{inner_paths}
use Rattle.canonical_paths.specs.steps.PathLists.{IsSlotOf}
use Rattle.canonical_paths.specs.steps.Kinds.{IsKindBelow}
use Rattle.canonical_paths.proofs.OneVariable.{found}
use Rattle.canonical_paths.proofs.AliasesStand.{lists_of, component_laid_out, alias_stands}
use Rattle.canonical_paths.proofs.JoinedSides.{finds_left, finds_right, left_below, right_below, one_type}
use Rattle.canonical_paths.proofs.aliases.alias_inside.Goals as goal

pub unwrap-left-requires : goal.unwrap-left-requires
unwrap-left-requires c =
    finds_left c.args.layouts.now c.args.so_far.now c.args.concept c.args.bind.now c.requires.next c.index-layouts-concept.result
    (slice_get-get_or c.args.layouts.now c.args.concept _ c.requires.concept ∙ ap (λ (l : LaidOut). Some l) (sym c.index-layouts-concept.is))
    c.as_slice.result.now c.find.result c.requires.some c.as_slice.ensures c.find.ensures.known

pub unwrap-right-requires : goal.unwrap-right-requires
unwrap-right-requires c =
    finds_right c.args.layouts.now c.args.so_far.now c.args.concept c.args.bind.now c.requires.next
    c.as_slice-2.result.now c.find-2.result c.as_slice-2.ensures c.find-2.ensures.known

pub count_inside-requires-clause-concept : goal.count_inside-requires-clause-concept
count_inside-requires-clause-concept c =
    (left_below c.args.layouts.now c.args.so_far.now c.args.concept c.args.bind.now c.requires.next c.index-layouts-concept.result
    (slice_get-get_or c.args.layouts.now c.args.concept _ c.requires.concept ∙ ap (λ (l : LaidOut). Some l) (sym c.index-layouts-concept.is))
    c.as_slice.result.now c.find.result c.unwrap-left.result c.requires.some c.as_slice.ensures c.unwrap-left.ensures c.find.ensures.kind).below

pub returns : goal.returns
returns c =
    λ w lists.
    let at : slice_get c.args.layouts.now c.args.concept ≡ Some c.index-layouts-concept.result =
    slice_get-get_or c.args.layouts.now c.args.concept _ c.requires.concept ∙ ap (λ (l : LaidOut). Some l) (sym c.index-layouts-concept.is) in
    let left = left_below c.args.layouts.now c.args.so_far.now c.args.concept c.args.bind.now c.requires.next c.index-layouts-concept.result at
    c.as_slice.result.now c.find.result c.unwrap-left.result c.requires.some c.as_slice.ensures c.unwrap-left.ensures c.find.ensures.kind in
    let right = right_below c.args.layouts.now c.args.so_far.now c.args.concept c.args.bind.now c.requires.next
    c.as_slice-2.result.now c.find-2.result c.unwrap-right.result c.as_slice-2.ensures c.unwrap-right.ensures c.find-2.ensures.kind in
    let inside = inner_paths w.concepts (Some c.args.concept) in
    alias_stands w inside c.args.bind.now c.unwrap-left.result c.unwrap-right.result c.count_inside.result _
    (subst (λ (ns : List Named). IsSlotOf (lists_of w inside) (texts ns) c.unwrap-left.result) c.as_slice.ensures
    (found c.find.result c.unwrap-left.result _
    (c.find.ensures.place (lists_of w inside) (component_laid_out w c.args.layouts.now c.args.so_far.now c.index-layouts-concept.result inside lists (lists.concepts c.args.concept c.index-layouts-concept.result at)))
    c.unwrap-left.ensures))
    (subst (λ (ns : List Named). IsSlotOf w (texts ns) c.unwrap-right.result) c.as_slice-2.ensures
    (found c.find-2.result c.unwrap-right.result _ (c.find-2.ensures.place w lists) c.unwrap-right.ensures))
    (one_type c.args.layouts.now c.args.so_far.now c.args.concept c.args.bind.now c.requires.next c.unwrap-left.result c.unwrap-right.result left right)
    (c.count_inside.ensures.count w.concepts lists.concepts)
    refl
