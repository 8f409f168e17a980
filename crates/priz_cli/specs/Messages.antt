-- The line that says why there is no report.
use Rattle.std.specs.Prelude.{ℕ, List, [], ◌++◌, codes, decimal}
use Rattle.priz_base.specs.declared.place.Place.{Place}
use Rattle.priz_cli.specs.declared.outcome.Outcome.{Outcome}
use Rattle.priz_cli.specs.declared.outcome.Outcome.TheVariants as outcome
use Rattle.priz_cli.specs.declared.refusal.Refusal.{Refusal}
use Rattle.priz_cli.specs.declared.refusal.Refusal.TheVariants as refusal
use Rattle.priz_cli.specs.Wordings.{lex_text, rule_text}

-- what is wrong at a place
abbrev pub placed_text : Place → List ℕ → List ℕ
placed_text p what =
    codes "priz: line " ++ (decimal p.line ++ (codes ", column " ++ (decimal p.col ++ (codes ": " ++ (what ++ codes "\n")))))

-- the bytes are UTF-8 up to this one
abbrev pub utf8_text : ℕ → List ℕ
utf8_text n = codes "priz: byte " ++ (decimal n ++ codes ": not UTF-8\n")

-- why an input is refused
abbrev pub refusal_text : Refusal → List ℕ
refusal_text (refusal.NotUtf8 n) = utf8_text n
refusal_text (refusal.Lex f) = placed_text f.place (lex_text f.kind)
refusal_text (refusal.Expected p) = placed_text p (codes "unexpected token")
refusal_text (refusal.TooDeep p) = placed_text p (codes "nesting too deep")
refusal_text (refusal.Model m) = placed_text m.place (rule_text m.rule)

-- the message of an outcome; a report has none
abbrev pub message_of : Outcome → List ℕ
message_of (outcome.Solved answers) = []
message_of outcome.Usage = codes "priz: usage: priz MODE [COUNT] [--budget N] [--turns N] [--explain] [--code]\n"
message_of (outcome.Refused r) = refusal_text r
message_of outcome.InputTooLong = codes "priz: input too long\n"
message_of outcome.ReadFault = codes "priz: read fault\n"
message_of outcome.WriteFault = codes "priz: write fault\n"
message_of outcome.NoMem = codes "priz: out of memory\n"
