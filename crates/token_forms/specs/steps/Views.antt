-- The tokens of a text, and where a reader of them stands.
use Rattle.std.specs.Prelude.{◌≡◌, ◌-◌, ℕ, List, [], ◌∷◌, ◌++◌, length, drop, map, Option, Some, None, Result, Ok, Err}
use Rattle.priz_base.specs.declared.place.Place.{Place}
use Rattle.utopist_lexer.specs.declared.token.Kind.TheVariants as kinds
use Rattle.utopist_lexer.specs.declared.fault.LexFault.{LexFault}
use Rattle.utopist_lexer.specs.Places.{Stands}
use Rattle.utopist_lexer.specs.Lexical.{Tok}
use Rattle.utopist_lexer.specs.Tokens.{Reads, FaultAt}
use Rattle.token_forms.specs.Symbols.{symbol_of}
use Rattle.token_forms.specs.steps.Left.{Left}

-- the end of a text, at its place
abbrev pub end_at : Place → Tok
end_at p = record { kind = kinds.End; text = []; place = p }

-- these are the tokens of a text, and its end as the last
pub record WholeTokens (text : List ℕ) (items : List Tok) : Type 0 where
  pub tokens : List Tok
  pub place : Place
  pub are : items ≡ tokens ++ end_at place ∷ []
  pub read : Reads text tokens
  pub stands : Stands text [] place

-- these are the tokens of a text, with its end or before this, its first fault
abbrev pub TokensOf : List ℕ → List Tok → Option LexFault → Type 0
TokensOf text items None = WholeTokens text items
TokensOf text items (Some f) = FaultAt text items f.place f.kind

-- all tokens of a text are left
pub record StartsAs (text : List ℕ) (now : Left) : Type 0 where
  pub same : now.text ≡ text
  pub items : List Tok
  pub fault : Option LexFault
  pub are : TokensOf text items fault
  pub symbols_are : now.symbols ≡ map symbol_of items

-- the place of the first of these tokens, or where there are none the fault behind them, if there is one
abbrev pub PlaceFrom : List Tok → Option LexFault → Option (Result Place LexFault) → Type 0
PlaceFrom [] None found = found ≡ None
PlaceFrom [] (Some f) found = found ≡ Some (Err f)
PlaceFrom (t ∷ ts) f found = found ≡ Some (Ok t.place)

-- the place where so many tokens are left
abbrev pub PlaceOf : List Tok → ℕ → Option LexFault → Option (Result Place LexFault) → Type 0
PlaceOf ts left f found = PlaceFrom (drop (length ts - left) ts) f found

-- what stands in the text where these symbols are left of it
abbrev pub StandsAt : Left → Option (Result Place LexFault) → Type 0
StandsAt now found = (items : List Tok) (f : Option LexFault) → TokensOf now.text items f → PlaceOf items (length now.symbols) f found
