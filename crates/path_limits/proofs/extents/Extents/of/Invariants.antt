use Rattle.std.proofs.Common.{◌≡◌, map, length}
use Rattle.utopist_syntax.specs.FileTree.{concept_tree}
use Rattle.canonical_paths.specs.Components.{declared_in}
use Rattle.path_limits.specs.steps.Measured.{own_paths, AreFirst}
use Rattle.path_limits.proofs.extents.Extents.of.Given as goal

abbrev pub invariant-loop-concept : goal.invariant-loop-concept
invariant-loop-concept l = record {
  own : AreFirst (own_paths (map concept_tree l.concepts)) (map concept_tree l.concepts) l.own;
  own_count : length l.own ≡ l.concept-index;
  whole : AreFirst (declared_in (map concept_tree l.concepts)) (map concept_tree l.concepts) l.extents;
  whole_count : length l.extents ≡ l.concept-index;
}
