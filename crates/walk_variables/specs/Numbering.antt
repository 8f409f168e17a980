-- The number of the variable of a path: the place of its canonical path among the variables of the walk.
use Rattle.std.specs.Prelude.{◌≡◌, ℕ, List, Some, length, reverse, slice_get}
use Rattle.std.specs.List.{position_or_len}
use Rattle.std.specs.Str.{bytes_eq}
use Rattle.std.specs.Cmp.Lexicographic.{pointwise}
use Rattle.utopist_syntax.specs.FileTree.{ConceptTree}
use Rattle.canonical_paths.specs.PathNames.{PathNames}
use Rattle.canonical_paths.specs.Canonical.{canonical_path}
use Rattle.concept_walk.specs.Visits.{walk, visited_variables}
use Rattle.concept_walk.specs.declared.walk.Walk.{Walk}
use Rattle.concept_walk.specs.Walks.{concepts_of, concept_in, paths_in, whole_walk}

-- of a path with this canonical path, among these variables
abbrev pub number_among : (PathNames → PathNames) → List PathNames → PathNames → ℕ
number_among canonical variables p = position_or_len (pointwise bytes_eq (canonical p)) variables

-- of a path of the concept of this name
abbrev pub numbering : List ConceptTree → List ℕ → PathNames → ℕ
numbering concepts name =
    number_among (canonical_path concepts name) (visited_variables (walk concepts name))

-- of a path of the asked concept
abbrev pub number_in : Walk → PathNames → ℕ
number_in w = numbering (reverse (concepts_of w)) (concept_in w w.asked).name.text

-- the variables of a walk by the numbers of their paths: for each declared path its place among them, if it is one
pub record AreVariableNumbers (w : Walk) (numbers : List ℕ) : Type 0 where
  pub count : length numbers ≡ length (paths_in w w.asked)
  pub each :
      (n k : ℕ) (p : PathNames)
      → slice_get (paths_in w w.asked) n ≡ Some p
      → slice_get (visited_variables (whole_walk w)) k ≡ Some p → slice_get numbers n ≡ Some k
