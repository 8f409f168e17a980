-- Appending a text to a vector of bytes, for which memory may be wanting.
use Rattle.std.specs.Prelude.{◌≡◌, ℕ, List, ◌++◌, Result, Ok, Err}
use Rattle.std.specs.Io.{StartsWith}

-- at Ok the text was appended; else the old bytes are still there, perhaps with others behind them
abbrev pub Prints : {T E : Type 0} → List ℕ → Result T E → List ℕ → List ℕ → Type 0
Prints text (Ok x) old new = new ≡ old ++ text
Prints text (Err e) old new = StartsWith new old
