-- The limits of a file.
use Rattle.std.specs.Prelude.{ℕ}

-- the most concepts of a file
abbrev pub max_concepts : ℕ
max_concepts = 1024

-- the most compute statements of a file
abbrev pub max_computes : ℕ
max_computes = 64
