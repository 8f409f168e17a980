-- The limit on segments.
use Rattle.std.specs.Prelude.{ℕ}

-- the most segments of a declared path of the concept that is asked
abbrev pub max_segments : ℕ
max_segments = 32
