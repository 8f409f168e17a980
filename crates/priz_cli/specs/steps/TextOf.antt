-- What taking bytes as a text answers.
use Rattle.std.specs.Prelude.{◌≡◌, ℕ, List, Result, Ok, Err}
use Rattle.std.specs.Str.{IsUtf8, IsValidUpTo}
use denote.Bor.{Bor}
use Rattle.priz_cli.specs.declared.fault.Fault.{Fault}
use Rattle.priz_cli.specs.declared.fault.Fault.TheVariants as fault
use Rattle.priz_cli.specs.declared.refusal.Refusal.TheVariants as refusal

-- the text, or how many bytes are one
abbrev pub TextOf : List ℕ → Result (Bor (List ℕ)) Fault → Type 0
TextOf bytes (Ok text) = IsUtf8 bytes × (text.now ≡ bytes)
TextOf bytes (Err (fault.Refused (refusal.NotUtf8 n))) = IsValidUpTo bytes n
TextOf bytes (Err e) = ⊥
