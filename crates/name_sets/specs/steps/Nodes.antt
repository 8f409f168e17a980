-- A tree of names as the list of the paths to its nodes.
use Rattle.std.specs.Prelude.{◌≡◌, ◌≢◌, ℕ, ◌<◌, ◌⊎◌, List, [], ◌++◌, length, take, slice_index_or, Contains, IsTrue}
use Rattle.std.specs.List.{AllPairs}
use Rattle.name_sets.specs.Paths.{is_prefix}

-- the path to the node of that number
abbrev pub path_to : List (List (List ℕ)) → ℕ → List (List ℕ)
path_to nodes n = slice_index_or nodes n []

-- n is the node at the end of this path
pub record IsNodeAt (nodes : List (List (List ℕ))) (path : List (List ℕ)) (n : ℕ) : Type 0 where
  pub within : n < length nodes
  pub leads : path_to nodes n ≡ path

-- the root is the first node, a path to a node passes nodes, and no two nodes have one path
pub record IsTree (nodes : List (List (List ℕ))) : Type 0 where
  pub root : IsNodeAt nodes [] 0
  pub closed : (p q : List (List ℕ)) → Contains nodes (p ++ q) → Contains nodes p
  pub distinct : AllPairs (λ x y. x ≢ y) nodes

-- nodes on the way of this path may have come behind the old ones, and no other
pub record GrowsAlong (old new : List (List (List ℕ))) (path : List (List ℕ)) : Type 0 where
  pub kept : take (length old) new ≡ old
  pub along : (p : List (List ℕ)) → Contains new p → Contains old p ⊎ IsTrue (is_prefix p path)
