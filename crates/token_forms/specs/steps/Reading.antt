-- What a reader keeps of the text that it reads.
use Rattle.std.specs.Prelude.{◌≡◌, ◌⊎◌, ℕ, false, List, [], ◌++◌, Option, Some, None, Result, Ok, Err}
use Rattle.std.specs.Str.{chars, encode_utf8_all}
use Rattle.priz_base.specs.declared.place.Place.{Place}
use Rattle.utopist_lexer.specs.declared.token.Token.{Token}
use Rattle.utopist_lexer.specs.declared.fault.LexFault.{LexFault}
use Rattle.utopist_lexer.specs.Gap.{past_gap}
use Rattle.utopist_lexer.specs.Places.{Stands}
use Rattle.utopist_lexer.specs.Lexical.{Tok}
use Rattle.utopist_lexer.specs.Tokens.{ReadsTo}
use Rattle.utopist_lexer.specs.Scanning.{Scan, tok, IsNext, IsEnd, IsFault}

-- this is next where so much is left of a text, and so much behind it; or the end was passed
abbrev pub Comes : Scan → Option (Result Token LexFault) → List ℕ → Type 0
Comes s None after = past_gap false s.left ≡ []
Comes s (Some (Ok t)) after = (IsNext s (tok t) after ⊎ IsEnd s (tok t) after) × (encode_utf8_all (chars t.text.now) ≡ t.text.now)
Comes s (Some (Err f)) after = IsFault s f after

-- the next token, and where in the text the lexer has left it
pub record IsAt (s : Scan) (next : Option (Result Token LexFault)) : Type 0 where
  pub before : List Tok
  pub from : List ℕ
  pub grows : (ts : List Tok) (stop : List ℕ) → ReadsTo s.whole from ts stop → ReadsTo s.whole s.whole (before ++ ts) stop
  pub comes : Comes (record { whole = s.whole; left = from }) next s.left
  pub stands : (p : Place) × Stands s.whole s.left p
