-- What there is of a concept, laid out.
use Rattle.std.specs.Prelude.{ℕ, List}
use Rattle.canonical_paths.specs.declared.slot.Slot.{Slot}

-- the variables of a concept by their names, and the table of its canonical paths
pub record LaidOut : Type 0 where
  pub names : List (List ℕ)
  pub slots : List Slot
  pub table : List ℕ
