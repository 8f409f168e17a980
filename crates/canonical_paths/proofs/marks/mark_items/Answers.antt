use Rattle.std.proofs.Common.{◌∷◌, [], ◌∙◌, List, take, map, sym, ap, subst}
use Rattle.std.proofs.lemmas.List.{take_all, map-append}
use Rattle.utopist_syntax.specs.declared.item.Item.{Item}
use Rattle.utopist_syntax.specs.FileTree.{ItemTree, item_tree}
use Rattle.canonical_paths.specs.steps.Marks.{IsTypeOf, MarksMore}
use Rattle.canonical_paths.proofs.Elements.{take_next}
use Rattle.canonical_paths.proofs.MarkedConcepts.{marks_items, marks_no_items}
use Rattle.canonical_paths.proofs.marks.mark_items.Goals as goal

pub loop-item-init : goal.loop-item-init
loop-item-init c = marks_no_items c.args.lineages.now.names c.args.marks.now

pub loop-item-preserved : goal.loop-item-preserved
loop-item-preserved c =
    subst (λ (is : List ItemTree). MarksMore (IsTypeOf c.args.lineages.now.names is) c.args.marks.now c.mark_item.new.marks)
    (sym (map-append item_tree (take c.loop-item.item-index c.args.items.now) (c.item-item.result ∷ []))
    ∙ ap (map item_tree) (sym (take_next c.args.items.now c.loop-item.item-index c.item-item.result _ c.loop-item-test.true c.item-item.is)))
    (marks_items c.args.lineages.now.names (map item_tree (take c.loop-item.item-index c.args.items.now)) (item_tree c.item-item.result ∷ [])
    c.args.marks.now c.loop-item.marks c.mark_item.new.marks c.loop-item.invariant c.mark_item.ensures)

pub returns : goal.returns
returns c =
    subst (λ (is : List Item). MarksMore (IsTypeOf c.args.lineages.now.names (map item_tree is)) c.args.marks.now c.loop-item.marks)
    (take_all c.loop-item.item-index c.args.items.now c.loop-item-test.false)
    c.loop-item.invariant
