-- Relations between sets as lists.
use Rattle.std.specs.Prelude.{◌≡◌, ◌≢◌, ◌↔◌, ◌⊎◌, ◌<◌, ℕ, List, All, Contains}
use Rattle.std.specs.List.Sorted.{IsStrictlyIncreasing}

-- a sorted list, with no number twice, of numbers below n
pub record IsSortedBelow (n : ℕ) (xs : List ℕ) : Type 0 where
  pub sorted : IsStrictlyIncreasing xs
  pub below : All (λ v. v < n) xs

-- each member of the one is a member of the other
abbrev pub IsWithin : List ℕ → List ℕ → Type 0
IsWithin xs ys = All (Contains ys) xs

-- the number becomes a member, and nothing else changes
abbrev pub Adds : List ℕ → List ℕ → ℕ → Type 0
Adds old new v = (n : ℕ) → Contains new n ↔ ((n ≡ v) ⊎ Contains old n)

-- the number is no member afterwards, and nothing else changes
abbrev pub Removes : List ℕ → List ℕ → ℕ → Type 0
Removes old new v = (n : ℕ) → Contains new n ↔ ((n ≢ v) × Contains old n)
