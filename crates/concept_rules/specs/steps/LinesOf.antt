-- The concepts that were checked, with the numbers of those whose items they have.
use Rattle.std.specs.Prelude.{◌≡◌, ℕ, List, slice_get, Some, Contains}
use Rattle.priz_base.specs.Sets.{IsWithin}
use Rattle.concept_rules.specs.Lineages.{Lines}

-- the line stands where the name does
abbrev pub IsLineOf : Lines → List ℕ → List ℕ → Type 0
IsLineOf l name line =
    (i : ℕ) × (slice_get l.names i ≡ Some name) × (slice_get l.lines i ≡ Some line)

-- one of these lines has this number and all of those
pub record StandTogether (lines : List (List ℕ)) (n : ℕ) (those : List ℕ) : Type 0 where
  pub line : List ℕ
  pub there : Contains lines line
  pub one : Contains line n
  pub others : IsWithin those line
