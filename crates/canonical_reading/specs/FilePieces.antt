-- The tokens of a file.
use Rattle.std.specs.Prelude.{List, [], ◌∷◌, ◌++◌, Option, Some, None, pos, ◌==◌, if◌then◌else◌}
use Rattle.std.specs.List.{flat_map, join_by}
use Rattle.priz_frac.specs.Ratio.{Ratio}
use Rattle.utopist_lexer.specs.declared.word.Word.TheVariants as words
use Rattle.utopist_lexer.specs.declared.mark.Mark.TheVariants as marks
use Rattle.utopist_syntax.specs.Named.{Named}
use Rattle.utopist_syntax.specs.declared.compute.Compute.{Compute}
use Rattle.utopist_syntax.specs.declared.compute.GivenPath.{GivenPath}
use Rattle.utopist_syntax.specs.FileTree.{ConceptTree, FileTree}
use Rattle.canonical_reading.specs.Piece.{Piece, word_piece, mark_piece, name_piece, number_piece, comma, signed_pieces}
use Rattle.canonical_reading.specs.PathPieces.{names_pieces, path_pieces, paths_pieces}
use Rattle.canonical_reading.specs.ItemPieces.{item_pieces}

-- nothing, or "is" and the parents
abbrev pub parents_pieces : List Named → List Piece
parents_pieces [] = []
parents_pieces (p ∷ more) = word_piece words.Is ∷ names_pieces comma (p ∷ more)

-- "concept" name, its parents, and its items in parentheses
abbrev pub concept_pieces : ConceptTree → List Piece
concept_pieces c =
    (word_piece words.Concept ∷ name_piece c.name ∷ (parents_pieces c.parents ++ (mark_piece marks.Colon ∷ mark_piece marks.OpenRound ∷ [])))
    ++ (flat_map item_pieces c.items ++ (mark_piece marks.CloseRound ∷ mark_piece marks.Semicolon ∷ []))

-- a whole number without its denominator
abbrev pub fraction_pieces : Ratio → List Piece
fraction_pieces x = signed_pieces x.num ++ (if x.den == 1 then [] else mark_piece marks.Slash ∷ number_piece (pos x.den) ∷ [])

-- nothing, or "=" and the fraction
abbrev pub value_pieces : Option Ratio → List Piece
value_pieces None = []
value_pieces (Some x) = mark_piece marks.Equal ∷ fraction_pieces x

-- a path, with its value if it has one
abbrev pub given_pieces : GivenPath → List Piece
given_pieces g = path_pieces g.path ++ value_pieces g.value

-- nothing, or "given" and what is given
abbrev pub givens_pieces : List GivenPath → List Piece
givens_pieces [] = []
givens_pieces (g ∷ more) = word_piece words.Given ∷ (join_by given_pieces comma (g ∷ more) ++ (mark_piece marks.Semicolon ∷ []))

-- "compute" name, what is given, and what is to be found
abbrev pub compute_pieces : Compute → List Piece
compute_pieces c =
    (word_piece words.Compute ∷ name_piece c.name ∷ mark_piece marks.Colon ∷ mark_piece marks.OpenRound ∷ [])
    ++ (givens_pieces c.givens ++ (word_piece words.Find ∷ (paths_pieces c.wants ++ (mark_piece marks.CloseRound ∷ mark_piece marks.Semicolon ∷ []))))

-- the concepts, and then the compute statements
abbrev pub file_pieces : FileTree → List Piece
file_pieces f = flat_map concept_pieces f.concepts ++ flat_map compute_pieces f.computes
