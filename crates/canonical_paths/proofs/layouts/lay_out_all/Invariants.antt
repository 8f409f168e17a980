use Rattle.std.proofs.Common.{◌≡◌, map, length}
use Rattle.utopist_syntax.specs.FileTree.{concept_tree}
use Rattle.canonical_paths.specs.steps.AllLayouts.{HaveAllLayouts}
use Rattle.canonical_paths.specs.steps.Marks.{marked}
use Rattle.canonical_paths.proofs.layouts.lay_out_all.Given as goal

abbrev pub invariant-loop-number : goal.invariant-loop-number
invariant-loop-number l = record {
  laid : HaveAllLayouts (map concept_tree l.concepts) (marked l.marks) l.layouts;
  count : length l.layouts ≡ l._number;
}
