-- Writing a text, whole or in part.
use Rattle.std.specs.Prelude.{ℕ, ◌<◌, ◌≤◌, Bool, true, false, List, length, take}
use Rattle.std.specs.List.{flat_map}
use Rattle.std.specs.declared.option.Option.{Option}
use Rattle.std.specs.Io.KnownBytes.{Appends}
use denote.Bor.{Bor}
use Rattle.priz_base.specs.Faults.{Rose}

-- a proper prefix of the text was written
abbrev pub WritesPart : Option (List ℕ) → Option (List ℕ) → List ℕ → Type 0
WritesPart old new text = (n : ℕ) × (n < length text) × Appends old new (take n text)

-- the text was written whole, and the count of faults didn't fall; else a proper prefix of it was written, and the
-- count rose
abbrev pub Writes : List ℕ → Bool → Option (List ℕ) → Option (List ℕ) → ℕ → ℕ → Type 0
Writes text true old new before now = Appends old new text × (before ≤ now)
Writes text false old new before now = WritesPart old new text × (before ≤ now) × Rose before now

-- pieces one after another
abbrev pub pieces_text : List (Bor (List ℕ)) → List ℕ
pieces_text pieces = flat_map (λ (p : Bor (List ℕ)). p.now) pieces
