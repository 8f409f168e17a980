use Rattle.std.proofs.Common.{◌<◌, List, map, drop, All}
use Rattle.utopist_syntax.specs.FileTree.{ConceptTree}
use Rattle.concept_rules.specs.steps.Extent.{Extent, concept_of, Reached, IsLine}
use Rattle.concept_rules.proofs.Steps.{Taking}
use Rattle.concept_rules.proofs.parents.take_line.Given as goal

-- what is left decides
abbrev pub invariant-loop-concept : goal.invariant-loop-concept
invariant-loop-concept l =
    (f : Extent) (concepts : List ConceptTree) → Reached f l.seen.concepts.now l.seen.checked.now l.seen.declared.now → IsLine f.all f.concept l.initial.taken concepts → All (λ n. n < f.concept) l.line → Taking f.all f.concept l.taken concepts (map (concept_of f.all) l.line) (map (concept_of f.all) (drop l.concept-index l.line))
