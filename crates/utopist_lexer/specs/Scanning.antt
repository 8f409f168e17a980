-- One step through a text.
use Rattle.std.specs.Prelude.{◌≡◌, ◌≢◌, ◌⊎◌, ℕ, false, List, [], ◌++◌, Result, Ok, Err}
use Rattle.std.specs.Str.{chars}
use Rattle.priz_base.specs.declared.place.Place.{Place}
use Rattle.utopist_lexer.specs.declared.token.Kind.TheVariants as kinds
use Rattle.utopist_lexer.specs.declared.token.Token.{Token}
use Rattle.utopist_lexer.specs.declared.fault.LexFault.{LexFault}
use Rattle.utopist_lexer.specs.Gap.{past_gap}
use Rattle.utopist_lexer.specs.Places.{Stands}
use Rattle.utopist_lexer.specs.Lexical.{Tok, IsToken}
use Rattle.utopist_lexer.specs.Faults.{Faulty}

-- a text that is being read: all of it, and what is left
pub record Scan : Type 0 where
  pub whole : List ℕ
  pub left : List ℕ

-- where a token begins
abbrev pub place_of : Token → Place
place_of t = record { at = t.at; line = t.line; col = t.col }

-- a token without where its text lies in memory
abbrev pub tok : Token → Tok
tok t = record { kind = t.kind; text = chars t.text.now; place = place_of t }

-- the next token, which stands behind the gap, and what is left behind it
pub record IsNext (s : Scan) (t : Tok) (after : List ℕ) : Type 0 where
  pub split : past_gap false s.left ≡ t.text ++ after
  pub place : Stands s.whole (past_gap false s.left) t.place
  pub token : IsToken t.kind t.text after

-- the end of the text, where nothing is left behind the gap; nothing is left then, so that the end comes again
pub record IsEnd (s : Scan) (t : Tok) (after : List ℕ) : Type 0 where
  pub kind : t.kind ≡ kinds.End
  pub nothing : past_gap false s.left ≡ []
  pub stays : after ≡ []
  pub empty : t.text ≡ []
  pub place : Stands s.whole [] t.place

-- why no token is next, though something is left behind the gap; nothing is taken, so that the same fault comes again
pub record IsFault (s : Scan) (f : LexFault) (after : List ℕ) : Type 0 where
  pub stays : after ≡ s.left
  pub some : past_gap false s.left ≢ []
  pub place : Stands s.whole (past_gap false s.left) f.place
  pub faulty : Faulty f.kind (past_gap false s.left)

-- what comes next in a text, and what is left then
abbrev pub NextOf : Scan → Result Token LexFault → List ℕ → Type 0
NextOf s (Ok t) after = IsNext s (tok t) after ⊎ IsEnd s (tok t) after
NextOf s (Err f) after = IsFault s f after
