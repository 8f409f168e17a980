-- The modes: for each one a row says its word, whether it reads, what is an input of it and what is refused, and what it writes.
use Rattle.std.specs.Prelude.{◌≡◌, ℕ, Bool, true, List, codes, if◌then◌else◌, Option, Some, None}
use Rattle.std.specs.Str.{bytes_eq, IsUtf8, IsValidUpTo}
use Rattle.utopist_syntax.specs.FileTree.{FileTree}
use Rattle.answer_core.specs.declared.effort.Effort.{Effort}
use Rattle.file_accept.specs.declared.fault.FileFault.TheVariants as fault
use Rattle.file_accept.specs.Accepted.{Accepts}
use Rattle.file_accept.specs.Refused.{Refuses}
use Rattle.file_accept.specs.Problems.{problems_of}
use Rattle.priz_cli.specs.declared.order.Mode.{Mode}
use Rattle.priz_cli.specs.declared.order.Mode.TheVariants as mode
use Rattle.priz_cli.specs.declared.outcome.Outcome.{Outcome}
use Rattle.priz_cli.specs.declared.outcome.Outcome.TheVariants as outcome
use Rattle.priz_cli.specs.declared.refusal.Refusal.{Refusal}
use Rattle.priz_cli.specs.declared.refusal.Refusal.TheVariants as refusal
use Rattle.priz_cli.specs.Reports.{AreAnswers, report_of}

-- the mode of a word
abbrev pub mode_of : List ℕ → Option Mode
mode_of word = if bytes_eq word (codes "solve") then Some mode.Solve else None

-- whether it reads the source
abbrev pub reads : Mode → Bool
reads mode.Solve = true

-- these bytes are an input of it: the text of a file that is accepted
abbrev pub IsInputOf : Mode → List ℕ → Type 0
IsInputOf mode.Solve bytes = IsUtf8 bytes × ((f : FileTree) × Accepts bytes f)

-- they are none, for this cause
abbrev pub IsRefusedFor : Mode → List ℕ → Refusal → Type 0
-- the first n bytes are the longest front that is UTF-8, and more follow
IsRefusedFor m bytes (refusal.NotUtf8 n) = IsValidUpTo bytes n
-- their text is that of no file that is accepted
IsRefusedFor mode.Solve bytes (refusal.Lex f) = IsUtf8 bytes × Refuses bytes (fault.Lex f)
IsRefusedFor mode.Solve bytes (refusal.Expected p) = IsUtf8 bytes × Refuses bytes (fault.Expected p)
IsRefusedFor mode.Solve bytes (refusal.TooDeep p) = IsUtf8 bytes × Refuses bytes (fault.TooDeep p)
IsRefusedFor mode.Solve bytes (refusal.Model f) = IsUtf8 bytes × Refuses bytes (fault.Model f)

-- its work on an input ends in this outcome and this text: right answers within the effort, and their report
abbrev pub IsDone : Mode → Effort → List ℕ → Outcome → List ℕ → Type 0
IsDone mode.Solve effort bytes (outcome.Solved answers) text =
    IsUtf8 bytes
    × ((f : FileTree) × Accepts bytes f × AreAnswers effort (problems_of f) answers × (text ≡ report_of (problems_of f) answers))
IsDone mode.Solve effort bytes o text = ⊥
