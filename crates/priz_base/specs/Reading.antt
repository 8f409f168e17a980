-- Reading a source to its end.
use Rattle.std.specs.Prelude.{◌≡◌, ℕ, ◌≤◌, List, ◌+◌, length, Result, Ok, Err}
use Rattle.std.specs.Global.{Vec}
use Rattle.std.specs.declared.option.Option.{Option}
use Rattle.std.specs.Io.KnownBytes.{Consumes, IsAtEnd}
use Rattle.priz_base.specs.declared.reading.ReadStop.{ReadStop}
use Rattle.priz_base.specs.declared.reading.ReadStop.TheVariants as stop

-- the most bytes of an input
abbrev pub max_input : ℕ
max_input = 1048576

-- at most so many bytes were taken
abbrev pub Takes : ℕ → Option (List ℕ) → Option (List ℕ) → Type 0
Takes n old new = (taken : List ℕ) × (length taken ≤ n) × Consumes old new taken

-- one byte more than the limit was taken
abbrev pub TakesTooMany : Option (List ℕ) → Option (List ℕ) → Type 0
TakesTooMany old new = (taken : List ℕ) × (length taken ≡ max_input + 1) × Consumes old new taken

-- what a reading took: Ok has all the bytes, and the end was met
abbrev pub ReadsWhole : Option (List ℕ) → Option (List ℕ) → Result (Vec ℕ) ReadStop → Type 0
ReadsWhole old new (Ok v) = Consumes old new v.items × IsAtEnd new × (length v.items ≤ max_input)
ReadsWhole old new (Err stop.TooLong) = TakesTooMany old new
ReadsWhole old new (Err stop.ReadFault) = Takes max_input old new
ReadsWhole old new (Err stop.NoMem) = Takes (max_input + 1) old new
