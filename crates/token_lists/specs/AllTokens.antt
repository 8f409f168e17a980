-- A text has tokens.
use Rattle.std.specs.Prelude.{ℕ, List, Option, Some, None}
use Rattle.utopist_lexer.specs.declared.fault.LexFault.{LexFault}
use Rattle.utopist_lexer.specs.Lexical.{Tok}
use Rattle.utopist_lexer.specs.Tokens.{Reads, FaultAt}

-- these are the tokens of a text up to its end, or up to this first fault
abbrev pub AreTokens : List ℕ → List Tok → Option LexFault → Type 0
AreTokens text ts None = Reads text ts
AreTokens text ts (Some f) = FaultAt text ts f.place f.kind

-- a text has a list of tokens, or a first fault behind one
abbrev pub HasTokens : List ℕ → Type 0
HasTokens text = (ts : List Tok) × (f : Option LexFault) × AreTokens text ts f
