use Rattle.std.proofs.Common.{◌≡◌, ℕ, List, map, take}
use Rattle.std.specs.List.{flat_map}
use Rattle.utopist_syntax.specs.FileTree.{item_tree}
use Rattle.canonical_paths.specs.PathNames.{PathNames}
use Rattle.canonical_paths.specs.DeclaredPaths.{item_paths}
use Rattle.path_limits.specs.Extents.{extent_of}
use Rattle.path_limits.specs.steps.Measured.{AreMeasured}
use Rattle.path_limits.proofs.own_items.extent_of_items.Given as goal

abbrev pub invariant-loop-item : goal.invariant-loop-item
invariant-loop-item l =
    (inside : List ℕ → List PathNames)
    → AreMeasured inside l.lineages.names l.extents (map item_tree l.items)
    → l.extent ≡ extent_of (flat_map (item_paths inside) (map item_tree (take l.item-index l.items)))
