-- The classes of characters that blanks, identifiers and numbers are made of.
use Rattle.std.specs.Prelude.{ℕ, Bool, not, ◌==◌, ◌||◌}
use Rattle.std.specs.Char.{is_ascii_digit}
use Rattle.unicode_ident.specs.Ident.{is_xid_start, is_xid_continue}
use Rattle.utopist_lexer.specs.declared.classes.Class.{Class}
use Rattle.utopist_lexer.specs.declared.classes.Class.TheVariants as classes

-- space, tab, line feed or carriage return
abbrev pub is_blank : ℕ → Bool
is_blank c = ((c == 32 || c == 9) || c == 10) || c == 13

-- a character that may start an identifier by Unicode's tables, or _
abbrev pub is_start : ℕ → Bool
is_start c = is_xid_start c || c == 95

-- a character that may continue an identifier by Unicode's tables
abbrev pub is_continue : ℕ → Bool
is_continue c = is_xid_continue c

-- whether a character is of a class
abbrev pub has : Class → ℕ → Bool
has classes.Identifier c = is_continue c
has classes.Digits c = is_ascii_digit c

-- a character that begins neither a name, nor a number, nor $ and a number
abbrev pub starts_otherwise : ℕ → Bool
starts_otherwise c = not (is_start c || is_ascii_digit c || c == 36)
