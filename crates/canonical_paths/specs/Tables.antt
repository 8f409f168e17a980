-- Declared paths by their numbers, and for each the number of its canonical path.
use Rattle.std.specs.Prelude.{◌≡◌, ℕ, List, Some, map, slice_get}
use Rattle.canonical_paths.specs.PathNames.{PathNames}

-- the entries are the numbers of the canonical paths of these paths, among themselves
abbrev pub IsTable : (PathNames → PathNames) → List PathNames → List ℕ → Type 0
IsTable canon paths table = map (slice_get paths) table ≡ map (λ p. Some (canon p)) paths
