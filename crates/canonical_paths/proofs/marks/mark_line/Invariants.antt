use Rattle.std.proofs.Common.{map, take}
use Rattle.utopist_syntax.specs.FileTree.{concept_tree}
use Rattle.canonical_paths.specs.steps.Settings.{items_of_line}
use Rattle.canonical_paths.specs.steps.Marks.{IsTypeOf, MarksMore}
use Rattle.canonical_paths.proofs.marks.mark_line.Given as goal

abbrev pub invariant-loop-which : goal.invariant-loop-which
invariant-loop-which l = MarksMore (IsTypeOf l.lineages.names (items_of_line (map concept_tree l.concepts) (take l.which-index l.line))) l.fn.marks l.marks
