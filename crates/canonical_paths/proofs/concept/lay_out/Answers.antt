use Rattle.std.proofs.Common.{◌≡◌, [], ℕ, List, map, take, refl, sym, ap, ◌∙◌, subst}
use Rattle.std.proofs.lemmas.List.{take_all}
use Rattle.utopist_syntax.specs.declared.item.Item.{Item}
use Rattle.utopist_syntax.specs.FileTree.{ItemTree, item_tree, concept_tree}
use Rattle.canonical_paths.specs.LaidOut.{LaidOut}
use Rattle.canonical_paths.specs.steps.Layouts.{no_variables}
use Rattle.canonical_paths.specs.steps.Settings.{items_of_line}
use Rattle.canonical_paths.specs.steps.Ready.{ItemsNext, TakesItems}
use Rattle.canonical_paths.proofs.TakingItems.{takes_nothing, takes_more}
use Rattle.canonical_paths.proofs.WholeConcepts.{line_step, next_of_line, covers_all}
use Rattle.canonical_paths.proofs.concept.lay_out.Goals as goal

pub loop-which-init : goal.loop-which-init
loop-which-init c =
    subst (λ (l : LaidOut). TakesItems c.args.lineages.now.names c.args.layouts.now no_variables l []) (sym c.new-layout.ensures)
    (takes_nothing c.args.lineages.now.names c.args.layouts.now no_variables)

pub add_items-requires-clause-next : goal.add_items-requires-clause-next
add_items-requires-clause-next c =
    subst (λ (is : List Item). ItemsNext c.args.lineages.now.names c.args.layouts.now c.loop-which.layout (map item_tree is)) (sym c.as_slice.ensures)
    (next_of_line c.args.lineages.now.names c.args.layouts.now c.args.concepts.now c.args.line.now c.loop-which.which-index _ c.index-concepts-which.result _ c.loop-which-test.true c.requires.line c.index-concepts-which.is
    c.loop-which.layout c.requires.ready c.loop-which.invariant)

pub loop-which-preserved : goal.loop-which-preserved
loop-which-preserved c =
    subst (λ (is : List ItemTree). TakesItems c.args.lineages.now.names c.args.layouts.now no_variables c.add_items.new.so_far is)
    (line_step c.args.lineages.now.names c.args.layouts.now c.args.concepts.now c.args.line.now c.loop-which.which-index _ c.index-concepts-which.result _ c.loop-which-test.true c.requires.line c.index-concepts-which.is)
    (takes_more c.args.lineages.now.names c.args.layouts.now no_variables c.loop-which.layout c.add_items.new.so_far
    (items_of_line (map concept_tree c.args.concepts.now) (take c.loop-which.which-index c.args.line.now)) (map item_tree c.index-concepts-which.result.items)
    c.loop-which.invariant
    (subst (λ (is : List Item). TakesItems c.args.lineages.now.names c.args.layouts.now c.loop-which.layout c.add_items.new.so_far (map item_tree is)) c.as_slice.ensures
    c.in_ok-add_items.ensures))

pub returns : goal.returns
returns c =
    covers_all c.args.lineages.now.names c.args.layouts.now (items_of_line (map concept_tree c.args.concepts.now) c.args.line.now) c.loop-which.layout
    (subst (λ (ns : List ℕ). TakesItems c.args.lineages.now.names c.args.layouts.now no_variables c.loop-which.layout (items_of_line (map concept_tree c.args.concepts.now) ns))
    (take_all c.loop-which.which-index c.args.line.now c.loop-which-test.false)
    c.loop-which.invariant)
