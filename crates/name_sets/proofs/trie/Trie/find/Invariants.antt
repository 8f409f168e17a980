use Rattle.std.proofs.Common.{take}
use Rattle.name_sets.specs.Paths.{texts}
use Rattle.name_sets.specs.steps.Nodes.{IsNodeAt}
use Rattle.name_sets.proofs.trie.Trie.find.Given as goal

-- the node at the end of what was walked
abbrev pub invariant-loop-name : goal.invariant-loop-name
invariant-loop-name l = IsNodeAt l.self (take l.name-index (texts l.path)) l.node
