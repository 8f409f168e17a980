use Rattle.std.proofs.Common.{◌+◌, map, length}
use Rattle.std.proofs.lemmas.List.{take_all}
use Rattle.std.proofs.lemmas.List.Concat.{length-flat_map}
use Rattle.std.proofs.lemmas.List.Folds.{fold-map}
use Rattle.utopist_syntax.specs.FileTree.{item_tree}
use Rattle.concept_unfold.specs.Declarations.{variables}
use Rattle.concept_unfold.specs.UnfoldingRules.{item_size, item_statements}
use Rattle.concept_unfold.proofs.limits.count.Goals as goal

pub returns-clause-variables : goal.returns-clause-variables
returns-clause-variables c =
    let items = c.args.items.now in
    let e = take_all c.loop-item.item-index items c.loop-item-test.false in
    rw (length-flat_map variables (map item_tree items), fold-map (λ a x. a + length (variables x)) item_tree 0 items) (rw e at c.loop-item.invariant.variables)

pub returns-clause-size : goal.returns-clause-size
returns-clause-size c =
    let items = c.args.items.now in
    let e = take_all c.loop-item.item-index items c.loop-item-test.false in
    rw (fold-map (λ a x. a + item_size x) item_tree 0 items) (rw e at c.loop-item.invariant.size)

pub returns-clause-statements : goal.returns-clause-statements
returns-clause-statements c =
    let items = c.args.items.now in
    let e = take_all c.loop-item.item-index items c.loop-item-test.false in
    rw (fold-map (λ a x. a + item_statements x) item_tree 0 items) (rw e at c.loop-item.invariant.statements)
