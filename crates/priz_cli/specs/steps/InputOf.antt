-- What getting the bytes that a mode reads answers.
use Rattle.std.specs.Prelude.{◌≡◌, ℕ, ◌+◌, Bool, true, false, IsTrue, Result, Ok, Err}
use Rattle.std.specs.Global.{Vec}
use Rattle.priz_base.specs.declared.reading.ReadStop.{ReadStop}
use Rattle.priz_base.specs.declared.reading.ReadStop.TheVariants as stop
use Rattle.priz_base.specs.Faults.{Rose}
use Rattle.priz_base.specs.Reading.{max_input, Takes, TakesTooMany}
use Rattle.priz_cli.specs.Ends.{SourceState, HasRead, Unread}

-- the bytes, or why there are none
abbrev pub InputOf : Bool → SourceState → SourceState → Result (Vec ℕ) ReadStop → Type 0
InputOf reads s t (Ok v) = HasRead reads v.items s t
InputOf reads s t (Err stop.TooLong) = IsTrue reads × TakesTooMany s.left t.left
InputOf reads s t (Err stop.ReadFault) = IsTrue reads × Takes max_input s.left t.left × Rose s.faults t.faults
InputOf reads s t (Err stop.NoMem) = Takes (max_input + 1) s.left t.left × (reads ≡ false → Unread s t)
