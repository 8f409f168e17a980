-- What making the text that a mode writes answers.
use Rattle.std.specs.Prelude.{ℕ, List, Result, Ok, Err, ⊤}
use Rattle.answer_core.specs.declared.effort.Effort.{Effort}
use Rattle.priz_cli.specs.declared.fault.Fault.{Fault}
use Rattle.priz_cli.specs.declared.fault.Fault.TheVariants as fault
use Rattle.priz_cli.specs.declared.make.Made.{Made}
use Rattle.priz_cli.specs.declared.order.Mode.{Mode}
use Rattle.priz_cli.specs.Modes.{IsRefusedFor, IsDone}

-- the outcome and the text, or why there are none
abbrev pub MadeOf : Mode → Effort → List ℕ → Result Made Fault → Type 0
MadeOf m effort bytes (Ok made) = IsDone m effort bytes made.outcome made.text.items
MadeOf m effort bytes (Err (fault.Refused r)) = IsRefusedFor m bytes r
MadeOf m effort bytes (Err fault.NoMem) = ⊤
