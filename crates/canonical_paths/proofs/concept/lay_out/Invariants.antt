use Rattle.std.proofs.Common.{map, take}
use Rattle.utopist_syntax.specs.FileTree.{concept_tree}
use Rattle.canonical_paths.specs.steps.Layouts.{no_variables}
use Rattle.canonical_paths.specs.steps.Settings.{items_of_line}
use Rattle.canonical_paths.specs.steps.Ready.{TakesItems}
use Rattle.canonical_paths.proofs.concept.lay_out.Given as goal

abbrev pub invariant-loop-which : goal.invariant-loop-which
invariant-loop-which l = TakesItems l.lineages.names l.layouts no_variables l.layout (items_of_line (map concept_tree l.concepts) (take l.which-index l.line))
