-- What the code's reading functions answer.
use Rattle.std.specs.Prelude.{◌≡◌, ◌<◌, ◌≤◌, List, length, Result, Ok, Err, OnOk}
use Rattle.token_forms.specs.declared.parse_stop.ParseStop.{ParseStop}
use Rattle.token_forms.specs.declared.parse_stop.ParseStop.TheVariants as stop
use Rattle.token_forms.specs.Symbols.{Symbol}
use Rattle.token_forms.specs.steps.Left.{Left}
use Rattle.token_forms.specs.steps.Steps.{Reading, StepOf}

-- why a reading stops, and the symbols that are left then
abbrev pub StoppedAt : Type 0
StoppedAt = ParseStop × List Symbol

-- the reading fails so, or memory ran out
abbrev pub Fails : {V : Type 0} → StoppedAt → Reading V → Type 0
Fails (stop.NoMem, new) read = Unit {0}
Fails (stop.Wrong why, new) read = read ≡ Err (why, length new)

-- what was returned, seen by view, with the symbols that are left is what reading gives, unless memory ran out
abbrev pub Gives : {X V : Type 0} → (X → V) → Result X ParseStop → List Symbol → Reading V → Type 0
Gives view (Ok x) new read = read ≡ Ok (view x, new)
Gives view (Err e) new read = Fails (e, new) read

-- the step reads this from the old symbols, seen by view, and leaves the new ones, or fails so, or memory ran out
abbrev pub ReadThrough : {X V : Type 0} → (X → V) → StepOf V → Left → Result X ParseStop → Left → Type 0
ReadThrough view step old result new = Gives view result new.symbols (step 63 old.symbols)

-- the same of what is seen as it is
abbrev pub ReadBy : {V : Type 0} → StepOf V → Left → Result V ParseStop → Left → Type 0
ReadBy step old result new = ReadThrough (λ v. v) step old result new

-- the same text is read on, and less of it is left, but where reading fails
abbrev pub GoesOn : {X : Type 0} → Left → Result X ParseStop → Left → Type 0
GoesOn old result new = (new.text ≡ old.text) × OnOk result (length new.symbols < length old.symbols)

-- the same where perhaps nothing is read
abbrev pub StaysOrGoesOn : {X : Type 0} → Left → Result X ParseStop → Left → Type 0
StaysOrGoesOn old result new = (new.text ≡ old.text) × OnOk result (length new.symbols ≤ length old.symbols)
