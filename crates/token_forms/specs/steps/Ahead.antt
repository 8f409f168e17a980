-- The symbols that a lexer will still give.
use Rattle.std.specs.Prelude.{◌-◌, ℕ, List, [], ◌∷◌, ◌++◌, length, take, map, if◌then◌else◌, Option, Some, None, Result, Ok, Err, refl}
use Rattle.utopist_lexer.specs.declared.token.Kind.TheVariants as kinds
use Rattle.utopist_lexer.specs.declared.token.Token.{Token}
use Rattle.utopist_lexer.specs.declared.fault.LexFault.{LexFault}
use Rattle.utopist_lexer.specs.Kinds.{same_kind}
use Rattle.utopist_lexer.specs.Places.{first_place, place_behind}
use Rattle.utopist_lexer.specs.Lexical.{Tok}
use Rattle.utopist_lexer.specs.Scanning.{Scan}
use Rattle.token_lists.specs.TokensFrom.{TokensFrom}
use Rattle.token_lists.proofs.Readings.{tokens_from}
use Rattle.token_forms.specs.Symbols.{Symbol, end, symbol_of, symbol}
use Rattle.token_forms.specs.steps.Left.{Left}

-- what stands before what is left of a text
abbrev pub passed : Scan → List ℕ
passed s = take (length s.whole - length s.left) s.whole

-- the tokens of what is left, which exist whatever the text is
abbrev pub tokens_left : (s : Scan) → TokensFrom (passed s ++ s.left) s.left
tokens_left s = tokens_from (passed s ++ s.left) s.left (place_behind first_place (passed s)) (passed s, refl, refl)

-- the symbols of tokens, and the end where no fault stands behind them
abbrev pub symbols_to : List Tok → Option LexFault → List Symbol
symbols_to ts None = map symbol_of ts ++ end ∷ []
symbols_to ts (Some f) = map symbol_of ts

-- the symbols of what is left of a text
abbrev pub symbols_left : Scan → List Symbol
symbols_left s = symbols_to (tokens_left s).tokens (tokens_left s).fault

-- the next token, if there is one, before the symbols behind it; behind the end are none
abbrev pub symbols_from : Option (Result Token LexFault) → List Symbol → List Symbol
symbols_from None behind = []
symbols_from (Some (Err f)) behind = []
symbols_from (Some (Ok t)) behind = symbol t ∷ (if same_kind t.kind kinds.End then [] else behind)

-- what is left where this is next in a text, and the lexer has passed it
abbrev pub left_at : Scan → Option (Result Token LexFault) → Left
left_at s next = record { text = s.whole; symbols = symbols_from next (symbols_left s) }
