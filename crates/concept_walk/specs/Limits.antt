-- The limits of a walk.
use Rattle.std.specs.Prelude.{ℕ}

-- the most variables of a problem
abbrev pub max_variables : ℕ
max_variables = 1024

-- the most nodes of its equations and relations together
abbrev pub max_size : ℕ
max_size = 262144
