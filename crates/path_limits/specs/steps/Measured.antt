-- Extents that are known while the concepts of a file are measured in order.
use Rattle.std.specs.Prelude.{◌≡◌, ◌<◌, ◌≤◌, ℕ, List, Contains, Some, map, reverse, length, slice_get, ⊤}
use Rattle.std.specs.List.{flat_map}
use Rattle.utopist_syntax.specs.declared.item.VarKind.{VarKind}
use Rattle.utopist_syntax.specs.declared.item.VarKind.TheVariants.{Numeric, Of}
use Rattle.utopist_syntax.specs.FileTree.{ItemTree, var, eq, rel, ConceptTree}
use Rattle.canonical_paths.specs.PathNames.{PathNames}
use Rattle.canonical_paths.specs.DeclaredPaths.{item_paths, declared_paths}
use Rattle.path_limits.specs.declared.extent.PathExtent.{PathExtent}
use Rattle.path_limits.specs.Extents.{extent_of}

-- the name of a type is one of these, and at its number stands the extent of the paths inside
pub record IsMeasured
    (inside : List ℕ → List PathNames) (names : List (List ℕ)) (extents : List PathExtent)
    (type : List ℕ) : Type 0 where
  pub named : Contains names type
  pub extent :
      (n : ℕ) → slice_get names n ≡ Some type → slice_get extents n ≡ Some (extent_of (inside type))

-- so it is for a component's type
abbrev pub IsKindMeasured :
    (List ℕ → List PathNames) → List (List ℕ) → List PathExtent → VarKind → Type 0
IsKindMeasured inside names extents Numeric = ⊤
IsKindMeasured inside names extents (Of type) = IsMeasured inside names extents type.text

-- and for the type of the variables of an item
abbrev pub IsItemMeasured :
    (List ℕ → List PathNames) → List (List ℕ) → List PathExtent → ItemTree → Type 0
IsItemMeasured inside names extents (var variables kind binds) =
    IsKindMeasured inside names extents kind
IsItemMeasured inside names extents (eq left right) = ⊤
IsItemMeasured inside names extents (rel name parts output body) = ⊤

-- and for each of these items
abbrev pub AreMeasured :
    (List ℕ → List PathNames) → List (List ℕ) → List PathExtent → List ItemTree → Type 0
AreMeasured inside names extents items =
    (i : ItemTree) → Contains items i → IsItemMeasured inside names extents i

-- at these numbers stand the extents of the paths of these concepts
abbrev pub AreOf :
    (ConceptTree → List PathNames) → List PathExtent → List ℕ → List ConceptTree → Type 0
AreOf paths extents line cs =
    map (slice_get extents) line ≡ map (λ c. Some (extent_of (paths c))) cs

-- the paths of a concept's own items, among these concepts
abbrev pub own_paths : List ConceptTree → ConceptTree → List PathNames
own_paths all c = flat_map (item_paths (declared_paths (reverse all))) c.items

-- these are the extents of the paths of the first of these concepts, in order
pub record AreFirst
    (paths : ConceptTree → List PathNames) (all : List ConceptTree) (extents : List PathExtent)
    : Type 0 where
  pub count : length extents ≤ length all
  pub each :
      (n : ℕ) (c : ConceptTree)
      → n < length extents → slice_get all n ≡ Some c
      → slice_get extents n ≡ Some (extent_of (paths c))
