-- The pieces of symbols.
use Rattle.std.specs.Prelude.{[]}
use Rattle.utopist_lexer.specs.declared.token.Kind.{Kind}
use Rattle.utopist_lexer.specs.declared.token.Kind.TheVariants as kinds
use Rattle.token_forms.specs.Symbols as symbols
use Rattle.token_forms.specs.Symbols.{Symbol}
use Rattle.canonical_reading.specs.Piece.{Piece, word_piece, mark_piece, name_piece, number_piece, sub_piece}

-- the piece of a token of this kind; a name has its text from elsewhere, and the end of the text has none
abbrev pub kind_piece : Kind → Piece
kind_piece (kinds.Word w) = word_piece w
kind_piece (kinds.Mark m) = mark_piece m
kind_piece (kinds.Number z) = number_piece z
kind_piece (kinds.Sub k out) = sub_piece k out
kind_piece kinds.Name = record { kind = kinds.Name; text = [] }
kind_piece kinds.End = record { kind = kinds.End; text = [] }

-- what a token is, and its characters, wherever it stands
abbrev pub symbol_piece : Symbol → Piece
symbol_piece (symbols.name n) = name_piece n
symbol_piece (symbols.sub k out place) = sub_piece k out
symbol_piece (symbols.fixed k) = kind_piece k
