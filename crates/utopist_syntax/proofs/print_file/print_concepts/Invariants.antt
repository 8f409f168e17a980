use Rattle.std.proofs.Common.{◌≡◌, ◌++◌, take}
use Rattle.std.specs.List.{flat_map}
use Rattle.utopist_syntax.specs.ConceptText.{concept_text}
use Rattle.utopist_syntax.proofs.print_file.print_concepts.Given as goal

abbrev pub invariant-loop-concept : goal.invariant-loop-concept
invariant-loop-concept l = l.out.items ≡ l.fn.out.items ++ flat_map concept_text (take l.concept-index l.concepts)
