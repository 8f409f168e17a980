-- A text is read in one way.
use Rattle.std.specs.Prelude.{◌≡◌, ℕ, List}
use Rattle.priz_base.specs.declared.place.Place.{Place}
use Rattle.utopist_lexer.specs.declared.fault.LexKind.{LexKind}
use Rattle.utopist_lexer.specs.Lexical.{Tok}
use Rattle.utopist_lexer.specs.Tokens.{Reads, FaultAt}

-- a text has no two lists of tokens
abbrev pub OneList : List ℕ → Type 0
OneList text = (ts us : List Tok) → Reads text ts → Reads text us → ts ≡ us

-- a text has no two first faults, and no two lists of tokens before its fault
abbrev pub OneFault : List ℕ → Type 0
OneFault text =
    (ts us : List Tok) (p q : Place) (j k : LexKind) → FaultAt text ts p j → FaultAt text us q k → (ts ≡ us) × (p ≡ q) × (j ≡ k)

-- a text that has a list of tokens has no fault
abbrev pub NotBoth : List ℕ → Type 0
NotBoth text = (ts us : List Tok) (p : Place) (k : LexKind) → Reads text ts → ¬ FaultAt text us p k
