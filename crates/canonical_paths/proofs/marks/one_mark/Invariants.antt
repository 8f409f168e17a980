use Rattle.std.proofs.Common.{◌≡◌, ℕ, length}
use Rattle.canonical_paths.specs.steps.Marks.{IsMarked}
use Rattle.canonical_paths.proofs.marks.one_mark.Given as goal

abbrev pub invariant-loop-place : goal.invariant-loop-place
invariant-loop-place l = (length l.marks ≡ l._place) × ((n : ℕ) → IsMarked l.marks n → ⊥)
