-- Paths by the nodes at which they end.
use Rattle.std.specs.Prelude.{◌≢◌, ℕ, ◌<◌, List, [], length, map, All, Contains, IsTrue}
use Rattle.std.specs.List.{list_any}
use Rattle.name_sets.specs.Paths.{is_prefix}
use Rattle.name_sets.specs.steps.Nodes.{path_to}

-- the paths that end at these nodes
abbrev pub paths_of : List (List (List ℕ)) → List ℕ → List (List (List ℕ))
paths_of nodes ends = map (path_to nodes) ends

-- paths end at nodes, and each node but the root is on the way of a path
pub record ArePaths (nodes : List (List (List ℕ))) (ends : List ℕ) : Type 0 where
  pub within : All (λ n. n < length nodes) ends
  pub used :
      (p : List (List ℕ)) → Contains nodes p → p ≢ []
      → IsTrue (list_any (is_prefix p) (paths_of nodes ends))
