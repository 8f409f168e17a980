use Rattle.std.proofs.Common.{◌≡◌, map, drop}
use Rattle.utopist_syntax.specs.FileTree.{concept_tree}
use Rattle.concept_unfold.specs.Declarations.{items_of}
use Rattle.concept_unfold.proofs.unfolding.items_of.Given as goal

-- the concept is among those that are left
abbrev pub invariant-loop-concept : goal.invariant-loop-concept
invariant-loop-concept l = items_of (map concept_tree l.concepts) l.name ≡ items_of (map concept_tree (drop l.concept-index l.concepts)) l.name
