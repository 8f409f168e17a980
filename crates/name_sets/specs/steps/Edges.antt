-- The nodes of a tree by its edges: edge i leads to node i + 1.
use Rattle.std.specs.Prelude.{◌≡◌, ◌≢◌, ℕ, ◌+◌, ◌^◌, ◌<◌, ◌≤◌, List, [], ◌∷◌, ◌++◌, length, slice_get, slice_index_or, Some}
use Rattle.std.specs.List.{AllPairs}
use Rattle.name_sets.specs.declared.edge.Edge.{Edge}
use Rattle.name_sets.specs.steps.Nodes.{path_to}

-- the path along an edge
abbrev pub path_along : List (List ℕ) → List (List (List ℕ)) → Edge → List (List ℕ)
path_along names nodes e = path_to nodes e.node ++ slice_index_or names e.name [] ∷ []

-- the paths to these nodes, and to those that further edges lead to
abbrev pub paths_from : List (List ℕ) → List (List (List ℕ)) → List Edge → List (List (List ℕ))
paths_from names nodes [] = nodes
paths_from names nodes (e ∷ edges) = paths_from names (nodes ++ path_along names nodes e ∷ []) edges

-- edge i goes from an earlier node, by one of the names
pub record IsStep (names : List (List ℕ)) (nodes : List (List (List ℕ))) (i : ℕ) (e : Edge)
    : Type 0 where
  pub before : e.node ≤ i
  pub named : e.name < length names
  pub leads : path_to nodes (i + 1) ≡ path_along names nodes e

-- what holds of names, edges and nodes together
pub record IsTrie (names : List (List ℕ)) (edges : List Edge) (nodes : List (List (List ℕ)))
    : Type 0 where
  pub count : length nodes ≡ length edges + 1
  pub small : length edges < 2 ^ 63
  pub root : path_to nodes 0 ≡ []
  pub steps : (i : ℕ) (e : Edge) → slice_get edges i ≡ Some e → IsStep names nodes i e
  pub distinct : AllPairs (λ x y. x ≢ y) nodes
