-- What a push does to the bytes of a sink, where they are told.
use Rattle.std.specs.Prelude.{◌≡◌, ℕ, ◌≤◌, List, length, take}
use Rattle.std.specs.declared.option.Option.{Option}
use Rattle.std.specs.Io.KnownBytes.{Keeps, Appends}
use Rattle.priz_base.specs.declared.sink.Push.{Push}
use Rattle.priz_base.specs.declared.sink.Push.TheVariants as push
use Rattle.priz_base.specs.Faults.{next_count}

-- at Took(n) at least one byte was taken, and at most as many as there are
abbrev pub FitsPush : Push → List ℕ → Type 0
FitsPush (push.Took n) from = (1 ≤ n) × (n ≤ length from)
FitsPush push.Failed from = Unit {0}

-- Took(n) adds the first n bytes, and Failed none
abbrev pub Pushes : Option (List ℕ) → Option (List ℕ) → Push → List ℕ → Type 0
Pushes old new (push.Took n) from = Appends old new (take n from)
Pushes old new push.Failed from = Keeps old new

-- the count of faults goes one up at Failed, and stays otherwise
abbrev pub CountsPush : Push → ℕ → ℕ → Type 0
CountsPush (push.Took n) before now = now ≡ before
CountsPush push.Failed before now = now ≡ next_count before
