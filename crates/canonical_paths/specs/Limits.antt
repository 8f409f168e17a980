-- The limit on declared paths.
use Rattle.std.specs.Prelude.{ℕ}

-- the most declared paths of the concept that is asked
abbrev pub max_declared : ℕ
max_declared = 8192
