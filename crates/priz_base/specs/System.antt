-- The streams over a reader or a writer, as those of the system.
use Rattle.std.specs.Prelude.{ℕ, ◌≤◌, List, length, take}
use Rattle.std.specs.declared.option.Option.{Option}
use Rattle.std.specs.Io.KnownBytes.{Appends}
use Rattle.priz_base.specs.declared.sink.Push.{Push}
use Rattle.priz_base.specs.declared.sink.Push.TheVariants as push

-- a reader or a writer, and how often it has failed
pub record Counting (X : Type 0) : Type 0 where
  pub inner : X
  pub faults : ℕ

-- what a push does to the bytes of the writer: Took(n) adds the first n bytes; Failed adds some of the first bytes, or
-- none, since a flush may fail after a write
abbrev pub PassesOn : Option (List ℕ) → Option (List ℕ) → Push → List ℕ → Type 0
PassesOn old new (push.Took n) from = Appends old new (take n from)
PassesOn old new push.Failed from = (n : ℕ) × (n ≤ length from) × Appends old new (take n from)
