use Rattle.std.proofs.Common.{map, ap, ◌∙◌}
use Rattle.statement_set.specs.Problem.{Task}
use Rattle.utopist_syntax.specs.FileTree.{item_tree}
use Rattle.concept_unfold.specs.Declarations.{all_variables}
use Rattle.concept_unfold.specs.Unfolded.{statements_of}
use Rattle.std.specs.List.{flat_map}
use Rattle.concept_unfold.proofs.Progress.{item_built, item_fits, variables_more, room_more}
use Rattle.concept_unfold.proofs.Following.{here_follows, follows_more, statements_more}
use Rattle.concept_unfold.proofs.items.add_items.Goals as goal

pub add_item-requires-clause-rules : goal.add_item-requires-clause-rules
add_item-requires-clause-rules c = here_follows c.args.items.now c.loop-item.item-index c.item-item.result c.loop-item-test.true c.item-item.is c.loop-item.problem.names c.loop-item.invariant.follows

pub add_item-requires-clause-built : goal.add_item-requires-clause-built
add_item-requires-clause-built c = item_built c.args.items.now c.loop-item.item-index c.item-item.result c.loop-item-test.true c.item-item.is c.requires.built

pub add_item-requires-clause-size : goal.add_item-requires-clause-size
add_item-requires-clause-size c = item_fits c.args.items.now c.loop-item.item-index c.item-item.result c.loop-item-test.true c.item-item.is c.requires.size

pub loop-item-preserved : goal.loop-item-preserved
loop-item-preserved c =
    let items = c.args.items.now in
    let i = c.loop-item.item-index in
    let x = c.item-item.result in
    let old = c.loop-item.problem in
    let new = c.add_item.new.problem in
    let e = c.in_ok-add_item.ensures in
    let names = ap (λ (p : Task). p.names) e in
    let statements = ap (λ (p : Task). p.statements) e in
    let f = c.loop-item.invariant.follows in
    let known = here_follows items i x c.loop-item-test.true c.item-item.is old.names f in
    let all = all_variables (map item_tree items) in
    record {
      follows = follows_more items i x c.loop-item-test.true c.item-item.is old.names new.names f names;
      variables = variables_more items i x c.loop-item-test.true c.item-item.is old.names new.names all c.loop-item.invariant.variables names;
      statements = statements_more items i x c.loop-item-test.true c.item-item.is old.names all old.statements new.statements (flat_map (statements_of all) (map item_tree items)) c.loop-item.invariant.variables known c.loop-item.invariant.statements statements;
      room = room_more items i x c.loop-item-test.true c.item-item.is old.names old.statements new.statements c.loop-item.invariant.room statements;
      equations = ap (λ (p : Task). p.equations) e ∙ c.loop-item.invariant.equations;
      givens = ap (λ (p : Task). p.givens) e ∙ c.loop-item.invariant.givens;
      wants = ap (λ (p : Task). p.wants) e ∙ c.loop-item.invariant.wants;
    }
