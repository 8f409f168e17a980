-- Something comes next at each place of a text.
use Rattle.std.specs.Prelude.{◌⊎◌, ℕ, List, [], Result}
use Rattle.std.specs.Str.{chars}
use Rattle.priz_base.specs.declared.place.Place.{Place}
use Rattle.utopist_lexer.specs.declared.token.Token.{Token}
use Rattle.utopist_lexer.specs.declared.fault.LexFault.{LexFault}
use Rattle.utopist_lexer.specs.Places.{Stands}
use Rattle.utopist_lexer.specs.Lexical.{Tok}
use Rattle.utopist_lexer.specs.Scanning.{Scan, IsNext, IsEnd, IsFault, NextOf}

-- a token is next, with what is left behind it; or the end; or a fault
abbrev pub HasNext : Scan → Type 0
HasNext s = ((t : Tok) × (after : List ℕ) × IsNext s t after) ⊎ (((t : Tok) × IsEnd s t []) ⊎ ((f : LexFault) × IsFault s f s.left))

-- it is so where what is left of the text stands at a place of it
abbrev pub NextExists : Scan → Type 0
NextExists s = (p : Place) → Stands s.whole s.left p → HasNext s

-- what is left behind the next token stands at a place again
abbrev pub BehindStands : Scan → Type 0
BehindStands s = (t : Tok) (after : List ℕ) → IsNext s t after → (p : Place) × Stands s.whole after p

-- some answer of the lexer is what comes next
abbrev pub HasAnswer : Scan → Type 0
HasAnswer s = (r : Result Token LexFault) × (after : List ℕ) × NextOf s r after

-- there is one at each place of a text
abbrev pub AnswersExist : List ℕ → Type 0
AnswersExist text = (left : List ℕ) (p : Place) → Stands (chars text) left p → HasAnswer (record { whole = chars text; left = left })
