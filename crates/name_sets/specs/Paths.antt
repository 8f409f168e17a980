-- Paths of names, and when two of them clash.
use Rattle.std.specs.Prelude.{ℕ, Bool, true, false, ◌&&◌, ◌||◌, List, [], ◌∷◌, map, Option}
use Rattle.std.specs.Str.{bytes_eq}
use Rattle.std.specs.Cmp.Lexicographic.{pointwise}
use Rattle.std.specs.List.{position}
use Rattle.utopist_syntax.specs.Named.{Named}

-- the characters of names
abbrev pub texts : List Named → List (List ℕ)
texts ns = map (λ n. n.text) ns

-- the first names are the beginning of the second ones
abbrev pub is_prefix : List (List ℕ) → List (List ℕ) → Bool
is_prefix [] path = true
is_prefix (n ∷ ns) [] = false
is_prefix (n ∷ ns) (m ∷ path) = bytes_eq n m && is_prefix ns path

-- one of two paths is a prefix of the other
abbrev pub clash : List (List ℕ) → List (List ℕ) → Bool
clash path other = is_prefix path other || is_prefix other path

-- the place of the first of these paths that has the same names
abbrev pub path_position : List (List ℕ) → List (List (List ℕ)) → Option ℕ
path_position path paths = position (pointwise bytes_eq path) paths
