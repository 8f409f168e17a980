-- A text and its tokens: blanks and comments stand between them.
use Rattle.std.specs.Prelude.{◌≡◌, ◌≢◌, ℕ, false, List, [], ◌∷◌, ◌++◌}
use Rattle.priz_base.specs.declared.place.Place.{Place}
use Rattle.utopist_lexer.specs.declared.fault.LexKind.{LexKind}
use Rattle.utopist_lexer.specs.Gap.{past_gap}
use Rattle.utopist_lexer.specs.Places.{Stands}
use Rattle.utopist_lexer.specs.Lexical.{Tok, IsToken}
use Rattle.utopist_lexer.specs.Faults.{Faulty}

-- these are the tokens of what is left of a text, up to where these characters stand behind the gap
abbrev pub ReadsTo : List ℕ → List ℕ → List Tok → List ℕ → Type 0
ReadsTo whole left [] stop = past_gap false left ≡ stop
ReadsTo whole left (t ∷ ts) stop =
    (rest : List ℕ) × (past_gap false left ≡ t.text ++ rest) × Stands whole (past_gap false left) t.place × IsToken t.kind t.text rest × ReadsTo whole rest ts stop

-- these are the tokens of a text, up to its end
abbrev pub Reads : List ℕ → List Tok → Type 0
Reads text ts = ReadsTo text text ts []

-- the first fault of a text stands here, behind these tokens, and is of this kind
pub record FaultAt (text : List ℕ) (ts : List Tok) (place : Place) (kind : LexKind) : Type 0 where
  pub left : List ℕ
  pub some : left ≢ []
  pub read : ReadsTo text text ts left
  pub stands : Stands text left place
  pub faulty : Faulty kind left
