-- What the words of the command line ask for.
use Rattle.std.specs.Prelude.{ℕ, Bool, true, false, List, [], ◌∷◌, ◌&&◌, if◌then◌else◌, nat_le, codes, Option, Some, None}
use Rattle.std.specs.Str.Parse.{digits_value}
use Rattle.std.specs.Char.{is_ascii_digit}
use Rattle.std.specs.List.{list_all}
use Rattle.clap.specs.Words.{App, Rule, Text, Kinds, new_app, new_rule, with_rule, first_of, matches_of, fault_of}
use Rattle.priz_cli.specs.declared.order.Order.{Order}
use Rattle.priz_cli.specs.declared.order.Mode.{Mode}
use Rattle.priz_cli.specs.Modes.{mode_of}

-- MODE
abbrev pub mode_rule : Rule
mode_rule = record (new_rule (codes "mode")) { required = true }

-- [--turns N]
abbrev pub turns_rule : Rule
turns_rule = record (new_rule (codes "turns")) { long = Some (codes "turns") }

-- a command of this name, without flags for help and version
abbrev pub silent : Text → App
silent name = let a = new_app name in record a { top = record a.top { disable_help_flag = true; disable_version_flag = true } }

-- priz MODE [--turns N]
abbrev pub command : App
command = with_rule (with_rule (silent (codes "priz")) mode_rule) turns_rule

-- the number that digits write, if it is from 1 to the greatest that is allowed
abbrev pub number_to : ℕ → Text → Option ℕ
number_to greatest text =
    let n = digits_value 10 text in
    if list_all is_ascii_digit text && (nat_le 1 n && nat_le n greatest) then Some n else None

-- the turns of a run where none are asked for
abbrev pub usual_turns : ℕ
usual_turns = 1000000

-- the most that may be asked for
abbrev pub most_turns : ℕ
most_turns = 10000000

-- the turns that are asked for, or the usual ones
abbrev pub turns_in : Option Text → Option ℕ
turns_in None = Some usual_turns
turns_in (Some text) = number_to most_turns text

-- a mode and its turns, where both are there
abbrev pub order_with : Option Mode → Option ℕ → Option Order
order_with (Some m) (Some turns) = Some (record { mode = m; effort = record { turns = turns } })
order_with (Some m) None = None
order_with None turns = None

-- what is asked for where MODE and --turns have these texts
abbrev pub order_in : Option Text → Option Text → Option Order
order_in None turns = None
order_in (Some word) turns = order_with (mode_of word) (turns_in turns)

-- whether the command takes words that have these faults
abbrev pub is_taken : Kinds → Bool
is_taken [] = true
is_taken (k ∷ ks) = false

-- what the words ask for, the first of which is the program's name; or none, where it is nothing that the program does
abbrev pub asked_order : List Text → Option Order
asked_order words =
    if is_taken (fault_of command words) then order_in (first_of (codes "mode") (matches_of command words)) (first_of (codes "turns") (matches_of command words))
    else None
