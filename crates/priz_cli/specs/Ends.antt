-- How a call of the program ends, whatever its mode.
use Rattle.std.specs.Prelude.{◌≡◌, ◌≢◌, ◌⊎◌, ℕ, ◌+◌, ◌≤◌, ◌<◌, List, [], length, Bool, true, false, IsTrue, IfSome, ⊤}
use Rattle.std.specs.Prelude.{Option, Some, None}
use Rattle.std.specs.Io.KnownBytes.{Keeps, Appends, Consumes, IsAtEnd}
use Rattle.priz_base.specs.Faults.{Rose}
use Rattle.priz_base.specs.Reading.{max_input, Takes, TakesTooMany}
use Rattle.priz_base.specs.Writing.{Writes, WritesPart}
use Rattle.priz_cli.specs.declared.order.Order.{Order}
use Rattle.priz_cli.specs.declared.order.Mode.{Mode}
use Rattle.priz_cli.specs.declared.outcome.Outcome.{Outcome}
use Rattle.priz_cli.specs.declared.outcome.Outcome.TheVariants as outcome
use Rattle.priz_cli.specs.declared.refusal.Refusal.{Refusal}
use Rattle.priz_cli.specs.Modes.{reads, IsInputOf, IsRefusedFor, IsDone}

-- what is seen of a source at one moment: the bytes that it has left, where it tells them, and how often it has failed
pub record SourceState : Type 0 where
  pub left : Option (List ℕ)
  pub faults : ℕ

-- what is seen of a sink: the bytes that it has got, where it tells them, and how often it has failed
pub record SinkState : Type 0 where
  pub written : Option (List ℕ)
  pub faults : ℕ

-- both at one moment
pub record Streams : Type 0 where
  pub source : SourceState
  pub sink : SinkState

-- a source and both streams of which this is seen
abbrev pub source_state : Option (List ℕ) → ℕ → SourceState
source_state left faults = record { left = left; faults = faults }

abbrev pub streams : Option (List ℕ) → ℕ → Option (List ℕ) → ℕ → Streams
streams left read_faults written write_faults =
    record { source = source_state left read_faults; sink = record { written = written; faults = write_faults } }

-- nothing was read, and no read failed
abbrev pub Unread : SourceState → SourceState → Type 0
Unread s t = Keeps s.left t.left × (t.faults ≡ s.faults)

-- nothing was written, and no write failed
abbrev pub Unwritten : SinkState → SinkState → Type 0
Unwritten s t = Keeps s.written t.written × (t.faults ≡ s.faults)

-- whether the source is to be read
abbrev pub is_to_read : Option Order → Bool
is_to_read None = false
is_to_read (Some order) = reads order.mode

-- these bytes were to be read and were: all that the source held, up to its end, and not too many; or none was to be
abbrev pub HasRead : Bool → List ℕ → SourceState → SourceState → Type 0
HasRead true bytes s t = Consumes s.left t.left bytes × IsAtEnd t.left × (length bytes ≤ max_input)
HasRead false bytes s t = (bytes ≡ []) × Unread s t

-- the work that was asked for was done on the bytes that were read, and ends in this outcome and this text
pub record Works (asked : Option Order) (s t : SourceState) (o : Outcome) (text : List ℕ) : Type 0 where
  pub order : Order
  pub asks : asked ≡ Some order
  pub bytes : List ℕ
  pub read : HasRead (reads order.mode) bytes s t
  pub done : IsDone order.mode order.effort bytes o text

-- the bytes that were read are refused for this cause
pub record WasRefused (asked : Option Order) (s t : SourceState) (r : Refusal) : Type 0 where
  pub order : Order
  pub asks : asked ≡ Some order
  pub bytes : List ℕ
  pub read : HasRead (reads order.mode) bytes s t
  pub cause : IsRefusedFor order.mode bytes r

-- what an outcome says of what was asked for, and of what was read and written
abbrev pub Leaves : Option Order → Outcome → Streams → Streams → Type 0
-- the words ask for nothing, and nothing was read or written
Leaves asked outcome.Usage s t = (asked ≡ None) × Unread s.source t.source × Unwritten s.sink t.sink
-- what was read is refused for this cause
Leaves asked (outcome.Refused r) s t = WasRefused asked s.source t.source r × Unwritten s.sink t.sink
-- one byte more than the limit was read
Leaves asked outcome.InputTooLong s t =
    IsTrue (is_to_read asked) × TakesTooMany s.source.left t.source.left × Unwritten s.sink t.sink
-- a read failed, before which not too many bytes were read
Leaves asked outcome.ReadFault s t =
    IsTrue (is_to_read asked) × Takes max_input s.source.left t.source.left
    × Rose s.source.faults t.source.faults × Unwritten s.sink t.sink
-- the work was done, and a write of its text failed, of which a proper prefix was written
Leaves asked outcome.WriteFault s t =
    (o : Outcome) × (text : List ℕ) × Works asked s.source t.source o text
    × WritesPart s.sink.written t.sink.written text × Rose s.sink.faults t.sink.faults
-- at most one byte more than the limit was read, and none where none was to be
Leaves asked outcome.NoMem s t =
    Takes (max_input + 1) s.source.left t.source.left
    × (is_to_read asked ≡ false → Unread s.source t.source) × Unwritten s.sink t.sink
-- the work was done, and its text was written
Leaves asked (outcome.Solved answers) s t =
    (text : List ℕ) × Works asked s.source t.source (outcome.Solved answers) text
    × Appends s.sink.written t.sink.written text

-- how a call ends; the counts of faults never fall
pub record Ends (asked : Option Order) (o : Outcome) (s t : Streams) : Type 0 where
  pub leaves : Leaves asked o s t
  pub later_read : s.source.faults ≤ t.source.faults
  pub later_write : s.sink.faults ≤ t.sink.faults

-- the line was written, whole, or in part where a write failed, and the source stays as it was
pub record Says (line : List ℕ) (s t : Streams) : Type 0 where
  pub source : t.source ≡ s.source
  pub said : (whole : Bool) × Writes line whole s.sink.written t.sink.written s.sink.faults t.sink.faults

-- the call ends so, and says this line then
abbrev pub EndsAndSays : Option Order → Outcome → List ℕ → Streams → Streams → Type 0
EndsAndSays asked o line s t = (middle : Streams) × Ends asked o s middle × Says line middle t

-- ---- what the words and the bytes settle

-- the call ends as it should, or for want of memory
abbrev pub EndsAs : Outcome → Outcome → Type 0
EndsAs due o = (o ≡ due) ⊎ (o ≡ outcome.NoMem)

-- the work was done, or its text could not be written, or memory was wanted
abbrev pub IsWork : Outcome → Type 0
IsWork (outcome.Solved answers) = ⊤
IsWork outcome.WriteFault = ⊤
IsWork outcome.NoMem = ⊤
IsWork o = ⊥

-- what is due for these bytes in this mode
pub record Settled (m : Mode) (o : Outcome) (bytes : List ℕ) : Type 0 where
  pub long : max_input < length bytes → EndsAs outcome.InputTooLong o
  pub refused : (r : Refusal) → length bytes ≤ max_input → IsRefusedFor m bytes r → EndsAs (outcome.Refused r) o
  pub accepted : length bytes ≤ max_input → IsInputOf m bytes → IsWork o

-- the bytes that a mode is to read, where the source tells them; none, where it reads nothing
abbrev pub bytes_to_read : Bool → Option (List ℕ) → Option (List ℕ)
bytes_to_read true left = left
bytes_to_read false left = Some []

-- what is due for these words and these bytes, unless they could not be read
abbrev pub Settles : Option Order → Outcome → Option (List ℕ) → Type 0
Settles None o left = EndsAs outcome.Usage o
Settles (Some order) o left =
    o ≢ outcome.ReadFault → IfSome (bytes_to_read (reads order.mode) left) (Settled order.mode o)
