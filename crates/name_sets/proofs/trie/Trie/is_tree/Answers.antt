use Rattle.name_sets.proofs.Tries.{is_tree}
use Rattle.name_sets.proofs.trie.Trie.is_tree.Goals as goal

pub returns : goal.returns
returns c = rw (← c.self.view_is) (is_tree _ _ _ c.self.invariant)
