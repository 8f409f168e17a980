use Rattle.std.proofs.Common.{take}
use Rattle.name_sets.specs.Paths.{texts}
use Rattle.name_sets.specs.steps.Nodes.{IsNodeAt}
use Rattle.name_sets.specs.steps.PathEnds.{paths_of}
use Rattle.name_sets.proofs.Clashes.{EndsFrom}
use Rattle.name_sets.proofs.paths.PathSet.clashes.Given as goal

-- the node at the end of what was walked, on which no path of the set ends before
abbrev pub invariant-loop-name : goal.invariant-loop-name
invariant-loop-name l =
    IsNodeAt l.self-inside.trie (take l.name-index (texts l.path)) l.node × EndsFrom (texts l.path) l.name-index (paths_of l.self-inside.trie l.self-inside.ends)
