-- Expressions as forms.
use Rattle.std.proofs.Common.{ℕ, Bool, true, false, List, [], ◌∷◌, ◌++◌, refl}
use Rattle.std.specs.Prelude.{ℤ, codes}
use Rattle.body_lang.specs.declared.op.Op.{Op}
use Rattle.body_lang.specs.declared.op.Op.TheVariants.{Add, Sub, Mul, Div}
use Rattle.body_lang.specs.declared.cmp.Cmp.{Cmp}
use Rattle.body_lang.specs.declared.cmp.Cmp.TheVariants.{Less, AtMost, Same}
use Rattle.body_lang.specs.declared.loop_kind.LoopKind.{LoopKind}
use Rattle.body_lang.specs.declared.loop_kind.LoopKind.TheVariants.{Sum, Prod, Iter}
use Rattle.utopist_lexer.specs.declared.word.Word.TheVariants as words
use Rattle.utopist_lexer.specs.declared.mark.Mark.TheVariants as marks
use Rattle.utopist_syntax.specs.declared.position.Position.{Position}
use Rattle.utopist_syntax.specs.declared.position.Position.TheVariants.{Alone, Compared, Negated, LeftOf, RightOf}
use Rattle.utopist_syntax.specs.Named.{Named}
use Rattle.utopist_syntax.specs.ExprTree.{ExprTree, ExprTrees, num, path, neg, op, choice, loop, call, none, more}
use Rattle.utopist_syntax.specs.Round.{round, rounds_op, rounds_choice}
use Rattle.utopist_syntax.specs.ExprText.{op_text, cmp_text, loop_text, call_text, text_at, args_text, more_args_text}
use Rattle.utopist_parser.specs.ExprSymbols.{cmp_mark, loop_word}
use Rattle.canonical_reading.specs.Piece.{Piece, word_piece, mark_piece, name_piece}
use Rattle.canonical_reading.specs.ExprPieces.{op_mark, round_pieces, called_pieces, pieces_at, args_pieces, more_pieces}
use Rattle.canonical_reading.proofs.PrintableParts.{PrintableName, PrintableNumber, PrintableTree, PrintableTrees}
use Rattle.canonical_reading.proofs.Forms.{anything, stops, free, Form, none_form, joins, asks, offers}
use Rattle.canonical_reading.proofs.PieceForms.{space, word_form, name_form, number_form, sub_form, mark_form, less_form}
use Rattle.canonical_reading.proofs.Spaced.{word_space, spaced_word, spaced_mark, comma_form, dotted_form}

-- ---- words and marks

-- an operator between spaces
op_form : (o : Op) → Form anything free (op_text o) (mark_piece (op_mark o) ∷ [])
op_form Add = spaced_mark marks.Plus refl
op_form Sub = spaced_mark marks.Minus refl
op_form Mul = spaced_mark marks.Star refl
op_form Div = spaced_mark marks.Slash refl

-- a comparison between spaces
cmp_form : (c : Cmp) → Form anything free (cmp_text c) (mark_piece (cmp_mark c) ∷ [])
cmp_form Less = let f = joins space less_form refl in f
cmp_form AtMost = spaced_mark marks.AtMost refl
cmp_form Same = spaced_mark marks.Equal refl

-- the word of a loop
loop_form : (kind : LoopKind) → Form stops anything (loop_text kind) (word_piece (loop_word kind) ∷ [])
loop_form Sum = word_form words.Sum
loop_form Prod = word_form words.Prod
loop_form Iter = word_form words.Iter

-- what opens parentheses
open_form : Form anything free (codes "(") (mark_piece marks.OpenRound ∷ [])
open_form = mark_form marks.OpenRound refl

-- what closes them
close_form : Form anything free (codes ")") (mark_piece marks.CloseRound ∷ [])
close_form = mark_form marks.CloseRound refl

-- ---- one node over its operands

-- an operand asks for what ends a number, and offers nothing
abbrev Operand : List ℕ → List Piece → Type 0
Operand text ps = Form free anything text ps

-- in parentheses where they are needed
round_form : (needed : Bool) (text : List ℕ) (ps : List Piece) → Operand text ps → Operand (round needed text) (round_pieces needed ps)
round_form true text ps f = let g = asks free (offers anything (joins open_form (joins f close_form refl) refl) refl) refl in g
round_form false text ps f = let g = joins f (none_form free) refl in g

-- behind a minus
minus_form : (text : List ℕ) (ps : List Piece) → Operand text ps → Operand (codes "-" ++ text) (mark_piece marks.Minus ∷ ps)
minus_form text ps f = let g = offers anything (joins (mark_form marks.Minus refl) f refl) refl in g

-- two operands with their operator
two_form : (o : Op) (ta tb : List ℕ) (pa pb : List Piece) → Operand ta pa → Operand tb pb → Operand (ta ++ (op_text o ++ tb)) (pa ++ (mark_piece (op_mark o) ∷ pb))
two_form o ta tb pa pb a b = let g = joins a (joins (op_form o) b refl) refl in g

-- a choice
choice_form : (c : Cmp) (ta tb tt te : List ℕ) (pa pb pt pe : List Piece) → Operand ta pa → Operand tb pb → Operand tt pt → Operand te pe → Operand ((codes "if " ++ ta) ++ ((cmp_text c ++ tb) ++ ((codes " then " ++ tt) ++ (codes " else " ++ te)))) ((word_piece words.If ∷ pa) ++ ((mark_piece (cmp_mark c) ∷ pb) ++ ((word_piece words.Then ∷ pt) ++ (word_piece words.Else ∷ pe))))
choice_form c ta tb tt te pa pb pt pe a b t e =
    let g = joins (joins (word_space words.If) a refl) (joins (joins (cmp_form c) b refl) (joins (joins (spaced_word words.Then) t refl) (joins (spaced_word words.Else) e refl) refl) refl) refl in g

-- a loop
turns_form : (kind : LoopKind) (n : Named) (ta tb te : List ℕ) (pa pb pe : List Piece) → PrintableName n → Operand ta pa → Operand tb pb → Operand te pe → Operand ((loop_text kind ++ (codes "(" ++ n.text)) ++ ((codes ", " ++ ta) ++ ((codes ", " ++ tb) ++ ((codes ", " ++ te) ++ codes ")")))) ((word_piece (loop_word kind) ∷ mark_piece marks.OpenRound ∷ name_piece n ∷ []) ++ ((mark_piece marks.Comma ∷ pa) ++ ((mark_piece marks.Comma ∷ pb) ++ ((mark_piece marks.Comma ∷ pe) ++ (mark_piece marks.CloseRound ∷ [])))))
turns_form kind n ta tb te pa pb pe h a b e =
    let head = joins (loop_form kind) (joins open_form (name_form n h) refl) refl in
    let tail = joins (joins comma_form a refl) (joins (joins comma_form b refl) (joins (joins comma_form e refl) close_form refl) refl) refl in
    let g = asks free (joins head tail refl) refl in g

-- a call
call_form : (k out : ℤ) (text : List ℕ) (ps : List Piece) → PrintableNumber k → PrintableNumber out → Operand text ps → Operand (call_text k out text) (called_pieces k out ps)
call_form k out text ps h o f = let g = asks free (joins (sub_form k out h o) (joins open_form (joins f close_form refl) refl) refl) refl in g

-- an argument behind another, and those behind it
more_form : (ta tb : List ℕ) (pa pb : List Piece) → Operand ta pa → Form free free tb pb → Form free free (codes ", " ++ (ta ++ tb)) (mark_piece marks.Comma ∷ (pa ++ pb))
more_form ta tb pa pb a b = let g = joins comma_form (joins a b refl) refl in g

-- ---- expressions

mutual
  -- an expression at its position
  pub tree_form : (p : Position) (t : ExprTree) → PrintableTree t → Form free anything (text_at p t) (pieces_at p t)
  tree_form p (num n) h = number_form n h
  tree_form p (path names) h = asks free (dotted_form names h) refl
  tree_form p (neg a) h = minus_form (text_at Negated a) (pieces_at Negated a) (tree_form Negated a h)
  tree_form p (op o a b) h =
      round_form (rounds_op p o) _ _ (two_form o (text_at (LeftOf o) a) (text_at (RightOf o) b) (pieces_at (LeftOf o) a) (pieces_at (RightOf o) b) (tree_form (LeftOf o) a h.0) (tree_form (RightOf o) b h.1))
  tree_form p (choice c a b t e) h =
      round_form (rounds_choice p) _ _ (choice_form c (text_at Compared a) (text_at Compared b) (text_at Alone t) (text_at Alone e) (pieces_at Compared a) (pieces_at Compared b) (pieces_at Alone t) (pieces_at Alone e) (tree_form Compared a h.0) (tree_form Compared b h.1) (tree_form Alone t h.2) (tree_form Alone e h.3))
  tree_form p (loop kind n a b e) h =
      turns_form kind n (text_at Alone a) (text_at Alone b) (text_at Alone e) (pieces_at Alone a) (pieces_at Alone b) (pieces_at Alone e) h.0 (tree_form Alone a h.1) (tree_form Alone b h.2) (tree_form Alone e h.3)
  tree_form p (call k out place args) h = call_form k out (args_text args) (args_pieces args) h.0 h.1 (args_form args h.2)

  -- arguments joined by commas
  args_form : (ts : ExprTrees) → PrintableTrees ts → Form free anything (args_text ts) (args_pieces ts)
  args_form none h = offers anything (none_form free) refl
  args_form (more a rest) h = joins (tree_form Alone a h.0) (rest_form rest h.1) refl

  -- the arguments behind another
  rest_form : (ts : ExprTrees) → PrintableTrees ts → Form free free (more_args_text ts) (more_pieces ts)
  rest_form none h = none_form free
  rest_form (more a rest) h = more_form (text_at Alone a) (more_args_text rest) (pieces_at Alone a) (more_pieces rest) (tree_form Alone a h.0) (rest_form rest h.1)
