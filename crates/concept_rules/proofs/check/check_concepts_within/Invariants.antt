use Rattle.std.proofs.Common.{map}
use Rattle.utopist_syntax.specs.FileTree.{concept_tree}
use Rattle.concept_rules.proofs.Steps.{WithinConcepts}
use Rattle.concept_rules.proofs.check.check_concepts_within.Given as goal

-- what is left decides
abbrev pub invariant-loop-which : goal.invariant-loop-which
invariant-loop-which l =
    WithinConcepts (map concept_tree l.concepts) l.concepts l.which l.found.checked l.found.declared
