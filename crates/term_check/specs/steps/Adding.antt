-- A set that grows by a list.
use Rattle.std.specs.Prelude.{◌↔◌, ◌⊎◌, ℕ, List, Contains}

-- the numbers become members, and nothing else changes
abbrev pub AddsAll : List ℕ → List ℕ → List ℕ → Type 0
AddsAll old new vs = (n : ℕ) → Contains new n ↔ (Contains vs n ⊎ Contains old n)
