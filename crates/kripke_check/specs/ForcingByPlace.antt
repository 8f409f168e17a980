-- Forcing, where worlds are named by their places in the list.
use Rattle.std.specs.Prelude.{ℕ, ◌⊎◌, List, Contains, IsSomeAnd, slice_get}
use Rattle.priz_base.specs.Sets.{IsWithin}
use Rattle.statement_set.specs.Formula.{Formula, atom, falsum, imp, and, or}
use Rattle.statement_set.specs.Forcing.{World}

-- worlds i and j are there, and each member of world i is a member of world j
abbrev pub IsAbove : List World → ℕ → ℕ → Type 0
IsAbove L i j = IsSomeAnd (slice_get L i) (λ w. IsSomeAnd (slice_get L j) (λ u. IsWithin w u))

-- world i forces the formula: an atom that is its member, and an implication where each world above i that forces the
-- premise forces the conclusion
abbrev pub forces_at : List World → ℕ → Formula → Type 0
forces_at L i (atom v) = IsSomeAnd (slice_get L i) (λ w. Contains w v)
forces_at L i falsum = ⊥
forces_at L i (imp A B) = (j : ℕ) → IsAbove L i j → forces_at L j A → forces_at L j B
forces_at L i (and A B) = forces_at L i A × forces_at L i B
forces_at L i (or A B) = forces_at L i A ⊎ forces_at L i B
