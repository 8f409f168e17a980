-- A set of variables as sixteen words of 64 bits.
use Rattle.std.specs.Prelude.{◌≡◌, ◌↔◌, ℕ, ◌<◌, ◌+◌, ◌*◌, List, Contains, slice_index}
use Rattle.std.specs.Int.{bit_at}

-- bit b of word w is set exactly where 64·w + b is a member
abbrev pub HasBits : List ℕ → List ℕ → Type 0
HasBits words set = (w b : ℕ) → w < 16 → b < 64 → (bit_at (slice_index words w) b ≡ 1) ↔ Contains set (64 * w + b)
