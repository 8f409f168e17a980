use Rattle.std.proofs.Common.{List, [], ℕ, map, take, subst}
use Rattle.std.proofs.lemmas.List.{take_all}
use Rattle.utopist_syntax.specs.declared.item.Item.{Item}
use Rattle.utopist_syntax.specs.FileTree.{ItemTree, item_tree, concept_tree}
use Rattle.canonical_paths.specs.steps.Settings.{items_of_line}
use Rattle.canonical_paths.specs.steps.Marks.{IsTypeOf, MarksMore}
use Rattle.canonical_paths.proofs.MarkedConcepts.{marks_items, marks_no_items}
use Rattle.canonical_paths.proofs.WholeConcepts.{line_step}
use Rattle.canonical_paths.proofs.marks.mark_line.Goals as goal

pub loop-which-init : goal.loop-which-init
loop-which-init c = marks_no_items c.args.lineages.now.names c.args.marks.now

pub loop-which-preserved : goal.loop-which-preserved
loop-which-preserved c =
    subst (λ (is : List ItemTree). MarksMore (IsTypeOf c.args.lineages.now.names is) c.args.marks.now c.mark_items.new.marks)
    (line_step c.args.lineages.now.names [] c.args.concepts.now c.args.line.now c.loop-which.which-index _ c.index-concepts-which.result _ c.loop-which-test.true c.requires.line c.index-concepts-which.is)
    (marks_items c.args.lineages.now.names (items_of_line (map concept_tree c.args.concepts.now) (take c.loop-which.which-index c.args.line.now)) (map item_tree c.index-concepts-which.result.items)
    c.args.marks.now c.loop-which.marks c.mark_items.new.marks c.loop-which.invariant
    (subst (λ (is : List Item). MarksMore (IsTypeOf c.args.lineages.now.names (map item_tree is)) c.loop-which.marks c.mark_items.new.marks) c.as_slice.ensures c.mark_items.ensures))

pub returns : goal.returns
returns c =
    subst (λ (ns : List ℕ). MarksMore (IsTypeOf c.args.lineages.now.names (items_of_line (map concept_tree c.args.concepts.now) ns)) c.args.marks.now c.loop-which.marks)
    (take_all c.loop-which.which-index c.args.line.now c.loop-which-test.false)
    c.loop-which.invariant
