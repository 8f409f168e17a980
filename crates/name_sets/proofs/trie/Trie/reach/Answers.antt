use Rattle.name_sets.proofs.Walks.{node_more, grows_more}
use Rattle.name_sets.proofs.trie.Trie.reach.Goals as goal

pub returns-in_err-node-clause-grows : goal.returns-in_err-node-clause-grows
returns-in_err-node-clause-grows c =
    grows_more c.args.self.now c.loop-name.self c.step.new.self c.args.path.now c.loop-name.name-index c.name-item.result c.text.result.now _ c.loop-name-test.true c.name-item.is c.text.ensures c.loop-name.invariant.0.leads c.loop-name.invariant.1 c.in_err-node.ensures.grows

pub loop-name-preserved : goal.loop-name-preserved
loop-name-preserved c =
    (node_more c.step.new.self c.args.path.now c.loop-name.name-index c.name-item.result c.text.result.now _ _ c.loop-name-test.true c.name-item.is c.text.ensures c.loop-name.invariant.0.leads c.in_ok-node.ensures.node, grows_more c.args.self.now c.loop-name.self c.step.new.self c.args.path.now c.loop-name.name-index c.name-item.result c.text.result.now _ c.loop-name-test.true c.name-item.is c.text.ensures c.loop-name.invariant.0.leads c.loop-name.invariant.1 c.in_ok-node.ensures.grows)
