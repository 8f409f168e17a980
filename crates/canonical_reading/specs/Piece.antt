-- Tokens without their places.
use Rattle.std.specs.Prelude.{◌≡◌, ℕ, ℤ, pos, negsuc, suc, List, [], ◌∷◌, map, if◌then◌else◌, Bool}
use Rattle.std.specs.Fmt.{signed_decimal}
use Rattle.std.specs.Str.{chars}
use Rattle.utopist_lexer.specs.declared.token.Kind.{Kind}
use Rattle.utopist_lexer.specs.declared.token.Kind.TheVariants as kinds
use Rattle.utopist_lexer.specs.declared.word.Word.{Word}
use Rattle.utopist_lexer.specs.declared.mark.Mark.{Mark}
use Rattle.utopist_lexer.specs.declared.mark.Mark.TheVariants as marks
use Rattle.utopist_lexer.specs.Spelling.{word_text, mark_text}
use Rattle.utopist_lexer.specs.Lexical.{Tok}
use Rattle.utopist_lexer.specs.Tokens.{Reads}
use Rattle.utopist_syntax.specs.Named.{Named}
use Rattle.utopist_syntax.specs.ExprText.{sub_spelling}

-- what a token is, and its characters
pub record Piece : Type 0 where
  pub kind : Kind
  pub text : List ℕ

-- a token without its place
abbrev pub piece_of : Tok → Piece
piece_of t = record { kind = t.kind; text = t.text }

-- a text has just these tokens, each wherever it stands
abbrev pub HasPieces : List ℕ → List Piece → Type 0
HasPieces text ps = (ts : List Tok) × Reads text ts × (map piece_of ts ≡ ps)

-- a keyword
abbrev pub word_piece : Word → Piece
word_piece w = record { kind = kinds.Word w; text = word_text w }

-- a mark
abbrev pub mark_piece : Mark → Piece
mark_piece m = record { kind = kinds.Mark m; text = mark_text m }

-- a name
abbrev pub name_piece : Named → Piece
name_piece n = record { kind = kinds.Name; text = chars n.text }

-- a number
abbrev pub number_piece : ℤ → Piece
number_piece z = record { kind = kinds.Number z; text = signed_decimal z }

-- $ and the number of a subtask, with the number of an output behind a dot where it isn't 1
abbrev pub sub_piece : ℤ → ℤ → Piece
sub_piece k out = record { kind = kinds.Sub k out; text = sub_spelling k out }

-- a comma between two of a list
abbrev pub comma : List Piece
comma = mark_piece marks.Comma ∷ []

-- a number of any sign: the minus is a token of its own
abbrev pub signed_pieces : ℤ → List Piece
signed_pieces (pos n) = number_piece (pos n) ∷ []
signed_pieces (negsuc n) = mark_piece marks.Minus ∷ number_piece (pos (suc n)) ∷ []

-- pieces that stand only where they are needed
abbrev pub if_needed_pieces : Bool → List Piece → List Piece
if_needed_pieces needed ps = if needed then ps else []
