-- Tokens that begin a file, and the first token with which they no longer do.
use Rattle.std.specs.Prelude.{◌≡◌, ◌⊎◌, ℕ, List, [], ◌∷◌, ◌++◌, map}
use Rattle.priz_base.specs.declared.place.Place.{Place}
use Rattle.utopist_lexer.specs.Places.{Stands}
use Rattle.utopist_lexer.specs.Lexical.{Tok, IsToken}
use Rattle.utopist_lexer.specs.Tokens.{ReadsTo}
use Rattle.token_forms.specs.Symbols.{Symbol, symbol_of, end}
use Rattle.utopist_parser.specs.WrittenFile.{WrittenFile}
use Rattle.utopist_parser.specs.FileSymbols.{spell_file}
use Rattle.utopist_parser.specs.FileNesting.{IsFile}

-- how deep expressions may be nested
abbrev pub max_nesting : ℕ
max_nesting = 64

-- symbols begin a file within a limit on nesting where some such file goes on with them
abbrev pub BeginsWithin : ℕ → List Symbol → Type 0
BeginsWithin limit ts = (w : WrittenFile) × (more : List Symbol) × IsFile limit w × (spell_file w ≡ ts ++ more)

-- symbols begin a file, however deep it is nested
abbrev pub BeginsFile : List Symbol → Type 0
BeginsFile ts = (limit : ℕ) × BeginsWithin limit ts

-- no file begins so
abbrev pub BeginsNone : List Symbol → Type 0
BeginsNone ts = ¬ BeginsFile ts

-- only files begin so that are nested too deep
abbrev pub BeginsTooDeep : List Symbol → Type 0
BeginsTooDeep ts = BeginsFile ts × ¬ BeginsWithin max_nesting ts

-- the symbol at the front of some characters, which stand at this place; it is the end where there are none
abbrev pub SymbolAt : List ℕ → Place → Symbol → Type 0
SymbolAt left place next = ((left ≡ []) × (next ≡ end))
    ⊎ ((t : Tok) × (rest : List ℕ) × (left ≡ t.text ++ rest) × IsToken t.kind t.text rest × (t.place ≡ place) × (next ≡ symbol_of t))

-- the first wrong token of a text stands here: those before it begin a file within the limit, and with it this is wrong
pub record FirstWrong (Wrong : List Symbol → Type 0) (text : List ℕ) (place : Place) : Type 0 where
  pub before : List Tok
  pub left : List ℕ
  pub read : ReadsTo text text before left
  pub begins : BeginsWithin max_nesting (map symbol_of before)
  pub stands : Stands text left place
  pub next : Symbol
  pub is_next : SymbolAt left place next
  pub wrong : Wrong (map symbol_of before ++ next ∷ [])
