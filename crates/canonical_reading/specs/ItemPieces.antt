-- The tokens of the items of a concept.
use Rattle.std.specs.Prelude.{List, [], ◌∷◌, ◌++◌, Option, Some, None}
use Rattle.std.specs.List.{join_by}
use Rattle.utopist_lexer.specs.declared.word.Word.TheVariants as words
use Rattle.utopist_lexer.specs.declared.mark.Mark.TheVariants as marks
use Rattle.utopist_syntax.specs.declared.path.Path.{Path}
use Rattle.utopist_syntax.specs.declared.item.VarKind.{VarKind}
use Rattle.utopist_syntax.specs.declared.item.VarKind.TheVariants.{Numeric, Of}
use Rattle.utopist_syntax.specs.declared.item.Bind.{Bind}
use Rattle.utopist_syntax.specs.declared.item.Part.{Part}
use Rattle.utopist_syntax.specs.declared.item.Part.TheVariants.{Input, Subtask}
use Rattle.utopist_syntax.specs.Named.{Named}
use Rattle.utopist_syntax.specs.ExprTree.{ExprTree}
use Rattle.utopist_syntax.specs.FileTree.{ItemTree, var, eq, rel}
use Rattle.canonical_reading.specs.Piece.{Piece, word_piece, mark_piece, name_piece, comma}
use Rattle.canonical_reading.specs.PathPieces.{names_pieces, path_pieces, paths_pieces}
use Rattle.canonical_reading.specs.ExprPieces.{expr_pieces}

-- "numeric", or the name of a concept
abbrev pub kind_pieces : VarKind → List Piece
kind_pieces Numeric = word_piece words.Numeric ∷ []
kind_pieces (Of n) = name_piece n ∷ []

-- path "=" path
abbrev pub bind_pieces : Bind → List Piece
bind_pieces b = path_pieces b.left ++ (mark_piece marks.Equal ∷ path_pieces b.right)

-- nothing, or the bindings in parentheses
abbrev pub binds_pieces : List Bind → List Piece
binds_pieces [] = []
binds_pieces (b ∷ more) = mark_piece marks.OpenRound ∷ (join_by bind_pieces comma (b ∷ more) ++ (mark_piece marks.CloseRound ∷ []))

-- "->" and paths, with the paths before them if there are any
abbrev pub task_pieces : List Path → List Path → List Piece
task_pieces [] outputs = mark_piece marks.Arrow ∷ paths_pieces outputs
task_pieces (p ∷ more) outputs = paths_pieces (p ∷ more) ++ (mark_piece marks.Arrow ∷ paths_pieces outputs)

-- a path, or a subtask in brackets
abbrev pub part_pieces : Part → List Piece
part_pieces (Input p) = path_pieces p
part_pieces (Subtask inputs outputs) = mark_piece marks.OpenSquare ∷ (task_pieces inputs outputs ++ (mark_piece marks.CloseSquare ∷ []))

-- the parts joined by commas
abbrev pub parts_pieces : List Part → List Piece
parts_pieces parts = join_by part_pieces comma parts

-- nothing, or the body in braces
abbrev pub body_pieces : Option ExprTree → List Piece
body_pieces None = []
body_pieces (Some e) = mark_piece marks.OpenCurly ∷ (expr_pieces e ++ (mark_piece marks.CloseCurly ∷ []))

-- "var" names ":" kind, with the bindings
abbrev pub var_pieces : List Named → VarKind → List Bind → List Piece
var_pieces names kind binds = word_piece words.Var ∷ (names_pieces comma names ++ (mark_piece marks.Colon ∷ (kind_pieces kind ++ (binds_pieces binds ++ (mark_piece marks.Semicolon ∷ [])))))

-- "eq" expression "=" expression
abbrev pub eq_pieces : ExprTree → ExprTree → List Piece
eq_pieces left right = word_piece words.Eq ∷ (expr_pieces left ++ (mark_piece marks.Equal ∷ (expr_pieces right ++ (mark_piece marks.Semicolon ∷ []))))

-- "rel" name ":" parts "->" path, with the body
abbrev pub rel_pieces : Named → List Part → Path → Option ExprTree → List Piece
rel_pieces n parts output body =
    word_piece words.Rel ∷ name_piece n ∷ mark_piece marks.Colon ∷ (parts_pieces parts ++ (mark_piece marks.Arrow ∷ (path_pieces output ++ (body_pieces body ++ (mark_piece marks.Semicolon ∷ [])))))

-- an item with its semicolon
abbrev pub item_pieces : ItemTree → List Piece
item_pieces (var names kind binds) = var_pieces names kind binds
item_pieces (eq left right) = eq_pieces left right
item_pieces (rel n parts output body) = rel_pieces n parts output body
