use Rattle.std.proofs.Common.{◌+◌}
use Rattle.name_sets.specs.Paths.{texts}
use Rattle.name_sets.proofs.Walks.{node_more, walk_ends, passes}
use Rattle.name_sets.proofs.trie.Trie.find.Goals as goal

pub returns-in_err-node-clause-missing : goal.returns-in_err-node-clause-missing
returns-in_err-node-clause-missing c =
    let ends = walk_ends c.args.self.now c.args.path.now c.loop-name.name-index c.name-item.result c.text.result.now _ c.loop-name-test.true c.name-item.is c.text.ensures c.loop-name.invariant.leads c.in_err-node.ensures.missing in
    rw c.from_residual.ensures (λ there. ends (passes c.args.self.now (texts c.args.path.now) (c.loop-name.name-index + 1) c.is_tree.ensures there))

pub loop-name-preserved : goal.loop-name-preserved
loop-name-preserved c =
    node_more c.args.self.now c.args.path.now c.loop-name.name-index c.name-item.result c.text.result.now _ _ c.loop-name-test.true c.name-item.is c.text.ensures c.loop-name.invariant.leads c.in_ok-node.ensures.found
