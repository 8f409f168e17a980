use Rattle.std.proofs.Common.{◌-◌, suc, map}
use Rattle.utopist_syntax.specs.FileTree.{concept_tree}
use Rattle.canonical_paths.specs.steps.Marks.{AreMarkedFrom}
use Rattle.canonical_paths.proofs.marks.reached_from.Given as goal

abbrev pub invariant-loop-done : goal.invariant-loop-done
invariant-loop-done l = AreMarkedFrom (map concept_tree l.concepts) l.asked (suc l.asked - l.done) l.marks
