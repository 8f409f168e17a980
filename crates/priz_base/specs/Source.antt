-- What a pull does to the bytes of a source, where they are told.
use Rattle.std.specs.Prelude.{◌≡◌, ℕ, ◌≤◌, List, length, take}
use Rattle.std.specs.declared.option.Option.{Option}
use Rattle.std.specs.Io.KnownBytes.{Keeps, Consumes, IsAtEnd}
use Rattle.priz_base.specs.declared.source.Pull.{Pull}
use Rattle.priz_base.specs.declared.source.Pull.TheVariants as pull
use Rattle.priz_base.specs.Faults.{next_count}

-- at Got(n) at least one byte came, and at most as many as there is room for
abbrev pub FitsPull : Pull → List ℕ → Type 0
FitsPull (pull.Got n) into = (1 ≤ n) × (n ≤ length into)
FitsPull pull.End into = Unit {0}
FitsPull pull.Failed into = Unit {0}

-- Got(n) takes the first n bytes, End comes only where none is left, and Failed takes none
abbrev pub Pulls : Option (List ℕ) → Option (List ℕ) → Pull → List ℕ → Type 0
Pulls old new (pull.Got n) into = Consumes old new (take n into)
Pulls old new pull.End into = IsAtEnd old × IsAtEnd new × Keeps old new
Pulls old new pull.Failed into = Keeps old new

-- the count of faults goes one up at Failed, and stays otherwise
abbrev pub CountsPull : Pull → ℕ → ℕ → Type 0
CountsPull (pull.Got n) before now = now ≡ before
CountsPull pull.End before now = now ≡ before
CountsPull pull.Failed before now = now ≡ next_count before
