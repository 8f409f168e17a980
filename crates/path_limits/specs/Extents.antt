-- How many declared paths concepts have, and how long they are.
use Rattle.std.specs.Prelude.{◌≡◌, ◌+◌, ℕ, List, map, length, min}
use Rattle.utopist_syntax.specs.FileTree.{ConceptTree}
use Rattle.canonical_paths.specs.PathNames.{PathNames}
use Rattle.canonical_paths.specs.DeclaredPaths.{most_segments}
use Rattle.canonical_paths.specs.Components.{declared_in}
use Rattle.canonical_paths.specs.Limits.{max_declared}
use Rattle.path_limits.specs.declared.extent.PathExtent.{PathExtent}
use Rattle.path_limits.specs.SegmentLimit.{max_segments}

-- how many paths there are, and the most segments of them, each stopped one past its limit
abbrev pub extent_of : List PathNames → PathExtent
extent_of paths = record {
  paths = min (length paths) (max_declared + 1);
  segments = min (most_segments paths) (max_segments + 1);
}

-- these are the extents of the declared paths of each concept of a file, in order
abbrev pub AreExtents : List ConceptTree → List PathExtent → Type 0
AreExtents all extents = extents ≡ map (λ c. extent_of (declared_in all c)) all
