-- The status that the program ends with.
use Rattle.std.specs.Prelude.{ℕ}
use Rattle.priz_cli.specs.declared.outcome.Outcome.{Outcome}
use Rattle.priz_cli.specs.declared.outcome.Outcome.TheVariants as outcome

-- for each outcome
abbrev pub status_of : Outcome → ℕ
status_of (outcome.Solved answers) = 0
status_of outcome.Usage = 2
status_of (outcome.Refused r) = 3
status_of outcome.ReadFault = 4
status_of outcome.WriteFault = 5
status_of outcome.NoMem = 6
status_of outcome.InputTooLong = 7
