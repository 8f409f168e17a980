-- The tokens of names and paths.
use Rattle.std.specs.Prelude.{List, [], ◌∷◌}
use Rattle.std.specs.List.{join_by}
use Rattle.utopist_lexer.specs.declared.mark.Mark.TheVariants as marks
use Rattle.utopist_syntax.specs.Named.{Named}
use Rattle.utopist_syntax.specs.declared.path.Path.{Path}
use Rattle.canonical_reading.specs.Piece.{Piece, name_piece, mark_piece, comma}

-- names with pieces between each two
abbrev pub names_pieces : List Piece → List Named → List Piece
names_pieces between names = join_by (λ n. name_piece n ∷ []) between names

-- names joined by dots
abbrev pub path_pieces : Path → List Piece
path_pieces p = names_pieces (mark_piece marks.Dot ∷ []) p.parts

-- paths joined by commas
abbrev pub paths_pieces : List Path → List Piece
paths_pieces paths = join_by path_pieces comma paths
