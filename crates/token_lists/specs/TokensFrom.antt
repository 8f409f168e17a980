-- The tokens of what is left of a text.
use Rattle.std.specs.Prelude.{◌≡◌, ◌≢◌, ℕ, List, [], ◌∷◌, Option, Some, None}
use Rattle.priz_base.specs.declared.place.Place.{Place}
use Rattle.utopist_lexer.specs.declared.fault.LexFault.{LexFault}
use Rattle.utopist_lexer.specs.Places.{Stands}
use Rattle.utopist_lexer.specs.Lexical.{Tok}
use Rattle.utopist_lexer.specs.Faults.{Faulty}
use Rattle.utopist_lexer.specs.Tokens.{ReadsTo}
use Rattle.utopist_lexer.specs.Scanning.{Scan, IsNext, IsEnd, IsFault}
use Rattle.token_lists.specs.AllTokens.{AreTokens}

-- why tokens stop where these characters are left of a text: none are, or they have this fault
abbrev pub StopsBy : List ℕ → List ℕ → Option LexFault → Type 0
StopsBy whole stop None = stop ≡ []
StopsBy whole stop (Some f) = (stop ≢ []) × Stands whole stop f.place × Faulty f.kind stop

-- the tokens of what is left of a text, up to its end or its first fault
pub record TokensFrom (whole left : List ℕ) : Type 0 where
  pub tokens : List Tok
  pub fault : Option LexFault
  pub stop : List ℕ
  pub read : ReadsTo whole left tokens stop
  pub stops : StopsBy whole stop fault

-- there are such where what is left stands at a place of the text
abbrev pub TokensExist : List ℕ → Type 0
TokensExist whole = (left : List ℕ) (p : Place) → Stands whole left p → TokensFrom whole left

-- where all is left they are those of the text
abbrev pub FirstAreAll : List ℕ → Type 0
FirstAreAll text = (a : TokensFrom text text) → AreTokens text a.tokens a.fault

-- what is left of a text has no two lists of tokens, and no two faults behind them
abbrev pub OneListFrom : List ℕ → List ℕ → Type 0
OneListFrom whole left = (a b : TokensFrom whole left) → (a.tokens ≡ b.tokens) × (a.fault ≡ b.fault)

-- the token that is next is the first of them, and what is left behind it has the others
abbrev pub NextIsFirst : Scan → Type 0
NextIsFirst s =
    (t : Tok) (after : List ℕ) → IsNext s t after → (a : TokensFrom s.whole s.left) (b : TokensFrom s.whole after) → (a.tokens ≡ t ∷ b.tokens) × (a.fault ≡ b.fault)

-- at the end there is none, and no fault
abbrev pub EndHasNone : Scan → Type 0
EndHasNone s = (t : Tok) (after : List ℕ) → IsEnd s t after → (a : TokensFrom s.whole s.left) → (a.tokens ≡ []) × (a.fault ≡ None)

-- at a fault there is none, and it is this fault
abbrev pub FaultHasNone : Scan → Type 0
FaultHasNone s = (f : LexFault) (after : List ℕ) → IsFault s f after → (a : TokensFrom s.whole s.left) → (a.tokens ≡ []) × (a.fault ≡ Some f)
