use Rattle.std.proofs.Common.{◌≡◌, ◌+◌, ◌≤◌, ◌<◌, List, length, is_some, sym, ap, ◌∙◌, arith}
use Rattle.std.proofs.lemmas.List.{length-map}
use Rattle.utopist_syntax.specs.Named.{Named}
use Rattle.name_sets.specs.Paths.{texts}
use Rattle.name_sets.proofs.Walks.{node_more, walk_ends}
use Rattle.name_sets.proofs.Clashes.{clashes_here, clashes_nowhere, clashes_behind, ends_later}
use Rattle.name_sets.proofs.paths.PathSet.clashes.Goals as goal

as_many : (path : List Named) → length (texts path) ≡ length path
as_many path = length-map path (λ (n : Named). n.text)

pub returns-then-is_some : goal.returns-then-is_some
returns-then-is_some c =
    rw (← c.self.view_is) (sym (clashes_here _ _ c.self.invariant c.is_tree.ensures (texts c.args.path.now) c.loop-name.name-index c.loop-name.node c.loop-name.invariant.0 (ap is_some (sym c.first.ensures) ∙ sym c.if-is_some.ensures)))

pub returns-in-None : goal.returns-in-None
returns-in-None c =
    let path = texts c.args.path.now in
    let i = c.loop-name.name-index in
    let lt : i < length path = omega (arith, c.loop-name-test.true, as_many c.args.path.now) in
    let from = ends_later _ _ c.self.invariant c.is_tree.ensures path i c.loop-name.node lt c.loop-name.invariant.0 (ap is_some (sym c.first.ensures) ∙ sym c.if-is_some.ensures) c.loop-name.invariant.1 in
    let ends = walk_ends c.self.inside.trie c.args.path.now i c.name-item.result c.text.result.now _ c.loop-name-test.true c.name-item.is c.text.ensures c.loop-name.invariant.0.leads c.in-None.ensures.missing in
    rw (← c.self.view_is) (sym (clashes_nowhere _ _ c.self.invariant c.is_tree.ensures path (i + 1) from ends))

pub loop-name-preserved : goal.loop-name-preserved
loop-name-preserved c =
    let path = texts c.args.path.now in
    let i = c.loop-name.name-index in
    let lt : i < length path = omega (arith, c.loop-name-test.true, as_many c.args.path.now) in
    (node_more c.self.inside.trie c.args.path.now i c.name-item.result c.text.result.now _ _ c.loop-name-test.true c.name-item.is c.text.ensures c.loop-name.invariant.0.leads c.in-Some.ensures.found, ends_later _ _ c.self.invariant c.is_tree.ensures path i c.loop-name.node lt c.loop-name.invariant.0 (ap is_some (sym c.first.ensures) ∙ sym c.if-is_some.ensures) c.loop-name.invariant.1)

pub returns : goal.returns
returns c =
    let le : length (texts c.args.path.now) ≤ c.loop-name.name-index = omega (arith, c.loop-name-test.false, as_many c.args.path.now) in
    rw (← c.self.view_is) (clashes_behind _ _ c.self.invariant c.is_tree.ensures (texts c.args.path.now) c.loop-name.name-index c.loop-name.node c.is_empty.result le c.loop-name.invariant.0 c.is_empty.ensures)
