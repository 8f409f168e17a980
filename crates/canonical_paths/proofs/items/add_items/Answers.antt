use Rattle.std.proofs.Common.{◌∙◌, ap, sym, subst, List, take, map, ◌∷◌, []}
use Rattle.std.proofs.lemmas.List.{take_all, map-append}
use Rattle.utopist_syntax.specs.declared.item.Item.{Item}
use Rattle.utopist_syntax.specs.FileTree.{ItemTree, item_tree}
use Rattle.canonical_paths.specs.steps.Ready.{TakesItems}
use Rattle.canonical_paths.proofs.Elements.{take_next, split_index}
use Rattle.canonical_paths.proofs.TakingItems.{takes_more, takes_nothing}
use Rattle.canonical_paths.proofs.NextItems.{next_items}
use Rattle.canonical_paths.proofs.items.add_items.Goals as goal

pub loop-item-init : goal.loop-item-init
loop-item-init c = takes_nothing c.args.lineages.now.names c.args.layouts.now c.args.so_far.now

pub add_item-requires-clause-next : goal.add_item-requires-clause-next
add_item-requires-clause-next c =
    let split = split_index c.args.items.now c.loop-item.item-index c.item-item.result _ c.loop-item-test.true c.item-item.is in
    next_items c.args.lineages.now.names c.args.layouts.now c.args.so_far.now c.loop-item.so_far (map item_tree c.args.items.now)
    (map item_tree (take c.loop-item.item-index c.args.items.now)) (item_tree c.item-item.result ∷ []) (map item_tree split.0)
    (ap (map item_tree) split.1 ∙ map-append item_tree (take c.loop-item.item-index c.args.items.now) (c.item-item.result ∷ split.0))
    c.requires.next c.loop-item.invariant

pub loop-item-preserved : goal.loop-item-preserved
loop-item-preserved c =
    subst (λ (is : List ItemTree). TakesItems c.args.lineages.now.names c.args.layouts.now c.args.so_far.now c.add_item.new.so_far is)
    (sym (map-append item_tree (take c.loop-item.item-index c.args.items.now) (c.item-item.result ∷ []))
    ∙ ap (map item_tree) (sym (take_next c.args.items.now c.loop-item.item-index c.item-item.result _ c.loop-item-test.true c.item-item.is)))
    (takes_more c.args.lineages.now.names c.args.layouts.now c.args.so_far.now c.loop-item.so_far c.add_item.new.so_far (map item_tree (take c.loop-item.item-index c.args.items.now)) (item_tree c.item-item.result ∷ []) c.loop-item.invariant c.in_ok-add_item.ensures)

pub returns : goal.returns
returns c =
    subst (λ (is : List Item). TakesItems c.args.lineages.now.names c.args.layouts.now c.args.so_far.now c.loop-item.so_far (map item_tree is))
    (take_all c.loop-item.item-index c.args.items.now c.loop-item-test.false)
    c.loop-item.invariant
