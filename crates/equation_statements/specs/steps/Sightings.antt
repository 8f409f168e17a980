-- What was seen of variables: which ones at all, and which ones twice or more.
use Rattle.std.specs.Prelude.{◌↔◌, ℕ, ◌≤◌, Contains}
use Rattle.equation_statements.specs.declared.counts.Sightings.{Sightings}

-- v was seen n times
pub record IsSeen (s : Sightings) (v n : ℕ) : Type 0 where
  pub once : Contains s.once v ↔ (1 ≤ n)
  pub again : Contains s.again v ↔ (2 ≤ n)
