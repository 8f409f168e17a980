-- Items as forms.
use Rattle.std.proofs.Common.{List, [], ◌∷◌, Option, Some, None, refl}
use Rattle.std.specs.Prelude.{codes}
use Rattle.std.specs.List.{AllByRecursion}
use Rattle.utopist_lexer.specs.declared.word.Word.TheVariants as words
use Rattle.utopist_lexer.specs.declared.mark.Mark.TheVariants as marks
use Rattle.utopist_syntax.specs.declared.path.Path.{Path}
use Rattle.utopist_syntax.specs.declared.expr.Expr.{Expr}
use Rattle.utopist_syntax.specs.declared.item.Item.{Item}
use Rattle.utopist_syntax.specs.declared.item.Item.TheVariants.{Var, Eq, Rel}
use Rattle.utopist_syntax.specs.declared.item.VarKind.{VarKind}
use Rattle.utopist_syntax.specs.declared.item.VarKind.TheVariants.{Numeric, Of}
use Rattle.utopist_syntax.specs.declared.item.Bind.{Bind}
use Rattle.utopist_syntax.specs.declared.item.Part.{Part}
use Rattle.utopist_syntax.specs.declared.item.Part.TheVariants.{Input, Subtask}
use Rattle.utopist_syntax.specs.PathText.{path_text, paths_text}
use Rattle.utopist_syntax.specs.ExprTree.{ExprTree}
use Rattle.utopist_syntax.specs.FileTree.{body_expr_tree, item_tree}
use Rattle.utopist_syntax.specs.View.{tree_of}
use Rattle.utopist_syntax.specs.ExprText.{expr_text}
use Rattle.utopist_syntax.specs.ItemText.{kind_text, bind_text, binds_text, task_text, part_text, parts_text, body_text, item_text}
use Rattle.canonical_reading.specs.PathPieces.{path_pieces, paths_pieces}
use Rattle.canonical_reading.specs.Piece.{mark_piece, comma}
use Rattle.canonical_reading.specs.ExprPieces.{expr_pieces}
use Rattle.canonical_reading.specs.ItemPieces.{kind_pieces, bind_pieces, binds_pieces, task_pieces, part_pieces, parts_pieces, body_pieces, item_pieces}
use Rattle.canonical_reading.proofs.PrintableParts.{SomeAndAll, PrintablePath, PrintableTree, PrintableKind, PrintableBind, PrintablePart, PrintableBody, PrintableItem}
use Rattle.canonical_reading.proofs.Forms.{anything, stops, free, Form, none_form, joins, asks, offers, then_blanks, join_form}
use Rattle.canonical_reading.proofs.PieceForms.{space, word_form, name_form, mark_form}
use Rattle.canonical_reading.proofs.Spaced.{word_space, mark_space, space_mark, spaced_mark, comma_form, names_form, dotted_form}
use Rattle.canonical_reading.proofs.ExprForms.{tree_form}

-- ---- paths and kinds

-- a path
pub path_form : (p : Path) → PrintablePath p → Form stops anything (path_text p) (path_pieces p)
path_form p h = dotted_form p.parts h

-- paths joined by commas
pub paths_form : (paths : List Path) → SomeAndAll PrintablePath paths → Form stops anything (paths_text paths) (paths_pieces paths)
paths_form paths h = join_form PrintablePath path_text path_pieces stops free (codes ", ") comma path_form comma_form refl paths h

-- an expression
expr_form : (t : ExprTree) → PrintableTree t → Form free anything (expr_text t) (expr_pieces t)
expr_form t h = tree_form _ t h

-- what a variable is
kind_form : (kind : VarKind) → PrintableKind kind → Form stops anything (kind_text kind) (kind_pieces kind)
kind_form Numeric h = word_form words.Numeric
kind_form (Of n) h = name_form n h

-- ---- bindings

-- a binding
bind_form : (b : Bind) → PrintableBind b → Form stops anything (bind_text b) (bind_pieces b)
bind_form b h = let f = joins (path_form b.left h.0) (joins (spaced_mark marks.Equal refl) (path_form b.right h.1) refl) refl in f

-- nothing, or the bindings in parentheses
binds_form : (bs : List Bind) → AllByRecursion PrintableBind bs → Form free free (binds_text bs) (binds_pieces bs)
binds_form [] h = none_form free
binds_form (b ∷ bs) h =
    let joined = join_form PrintableBind bind_text bind_pieces stops free (codes ", ") comma bind_form comma_form refl (b ∷ bs) h in
    let f = asks free (joins (space_mark marks.OpenRound refl) (joins joined (mark_form marks.CloseRound refl) refl) refl) refl in f

-- ---- parts

-- what a subtask takes and gives
task_form : (inputs outputs : List Path) → AllByRecursion PrintablePath inputs → SomeAndAll PrintablePath outputs → Form stops anything (task_text inputs outputs) (task_pieces inputs outputs)
task_form [] outputs h o = let f = offers anything (joins (mark_space marks.Arrow refl) (paths_form outputs o) refl) refl in f
task_form (p ∷ ps) outputs h o = let f = joins (paths_form (p ∷ ps) h) (joins (spaced_mark marks.Arrow refl) (paths_form outputs o) refl) refl in f

-- a path, or a subtask in brackets
part_form : (p : Part) → PrintablePart p → Form stops anything (part_text p) (part_pieces p)
part_form (Input p) h = path_form p h
part_form (Subtask inputs outputs) h =
    let f = asks stops (offers anything (joins (mark_form marks.OpenSquare refl) (joins (task_form inputs outputs h.0 h.1) (mark_form marks.CloseSquare refl) refl) refl) refl) refl in f

-- nothing, or the parts and a space
parts_form : (parts : List Part) → AllByRecursion PrintablePart parts → Form anything anything (parts_text parts) (parts_pieces parts)
parts_form [] h = none_form anything
parts_form (p ∷ ps) h =
    let joined = join_form PrintablePart part_text part_pieces stops free (codes ", ") comma part_form comma_form refl (p ∷ ps) h in
    then_blanks joined space refl

-- nothing, or the body in braces
body_form : (body : Option Expr) → PrintableBody (body_expr_tree body) → Form free free (body_text body) (body_pieces (body_expr_tree body))
body_form None h = none_form free
body_form (Some e) h =
    let f = asks free (joins (spaced_mark marks.OpenCurly refl) (joins (expr_form (tree_of e) h) (space_mark marks.CloseCurly refl) refl) refl) refl in f

-- ---- items

-- a semicolon
semicolon : Form anything free (codes ";") (mark_piece marks.Semicolon ∷ [])
semicolon = mark_form marks.Semicolon refl

-- an item with its semicolon
pub item_form : (item : Item) → PrintableItem (item_tree item) → Form anything anything (item_text item) (item_pieces (item_tree item))
item_form (Var names kind binds) h =
    let tail = joins (kind_form kind h.1) (joins (binds_form binds h.2) semicolon refl) refl in
    let f = joins (word_space words.Var) (joins (names_form names h.0) (joins (spaced_mark marks.Colon refl) tail refl) refl) refl in f
item_form (Eq left right) h =
    let f = joins (word_space words.Eq) (joins (expr_form (tree_of left) h.0) (joins (spaced_mark marks.Equal refl) (joins (expr_form (tree_of right) h.1) semicolon refl) refl) refl) refl in f
item_form (Rel n parts output body) h =
    let tail = joins (mark_space marks.Arrow refl) (joins (path_form output h.2) (joins (body_form body h.3) semicolon refl) refl) refl in
    let f = joins (word_space words.Rel) (joins (name_form n h.0) (joins (spaced_mark marks.Colon refl) (joins (parts_form parts h.1) tail refl) refl) refl) refl in f
