use Rattle.name_sets.proofs.Growing.{grows_by}
use Rattle.name_sets.proofs.trie.Trie.step.Goals as goal

pub returns-in-None-clause-grows : goal.returns-in-None-clause-grows
returns-in-None-clause-grows c =
    grows_by _ _ _ c.add_child.result c.add_child.ensures.ok c.add_child.ensures.err
