-- The tokens of an expression.
use Rattle.std.specs.Prelude.{ℤ, Bool, List, [], ◌∷◌, ◌++◌}
use Rattle.body_lang.specs.declared.op.Op.{Op}
use Rattle.body_lang.specs.declared.op.Op.TheVariants.{Add, Sub, Mul, Div}
use Rattle.utopist_lexer.specs.declared.word.Word.TheVariants as words
use Rattle.utopist_lexer.specs.declared.mark.Mark.{Mark}
use Rattle.utopist_lexer.specs.declared.mark.Mark.TheVariants as marks
use Rattle.utopist_syntax.specs.declared.position.Position.{Position}
use Rattle.utopist_syntax.specs.declared.position.Position.TheVariants.{Alone, Compared, Negated, LeftOf, RightOf}
use Rattle.utopist_syntax.specs.ExprTree.{ExprTree, ExprTrees, num, path, neg, op, choice, loop, call, none, more}
use Rattle.utopist_syntax.specs.Round.{rounds_op, rounds_choice}
use Rattle.utopist_parser.specs.ExprSymbols.{cmp_mark, loop_word}
use Rattle.canonical_reading.specs.Piece.{Piece, word_piece, mark_piece, name_piece, number_piece, sub_piece, if_needed_pieces}
use Rattle.canonical_reading.specs.PathPieces.{names_pieces}

-- the mark of an operator
abbrev pub op_mark : Op → Mark
op_mark Add = marks.Plus
op_mark Sub = marks.Minus
op_mark Mul = marks.Star
op_mark Div = marks.Slash

-- in parentheses where they are needed
abbrev pub round_pieces : Bool → List Piece → List Piece
round_pieces needed ps = if_needed_pieces needed (mark_piece marks.OpenRound ∷ []) ++ (ps ++ if_needed_pieces needed (mark_piece marks.CloseRound ∷ []))

-- a call for an output of the k-th subtask, with the pieces of its arguments
abbrev pub called_pieces : ℤ → ℤ → List Piece → List Piece
called_pieces k out args = sub_piece k out ∷ mark_piece marks.OpenRound ∷ (args ++ (mark_piece marks.CloseRound ∷ []))

abbrev mutual
  -- an expression at its position
  pub pieces_at : Position → ExprTree → List Piece
  pieces_at p (num n) = number_piece n ∷ []
  pieces_at p (path names) = names_pieces (mark_piece marks.Dot ∷ []) names
  pieces_at p (neg a) = mark_piece marks.Minus ∷ pieces_at Negated a
  pieces_at p (op o a b) = round_pieces (rounds_op p o) (pieces_at (LeftOf o) a ++ (mark_piece (op_mark o) ∷ pieces_at (RightOf o) b))
  pieces_at p (choice c a b t e) =
      round_pieces (rounds_choice p)
      ((word_piece words.If ∷ pieces_at Compared a) ++ ((mark_piece (cmp_mark c) ∷ pieces_at Compared b)
      ++ ((word_piece words.Then ∷ pieces_at Alone t) ++ (word_piece words.Else ∷ pieces_at Alone e))))
  pieces_at p (loop kind n a b e) =
      (word_piece (loop_word kind) ∷ mark_piece marks.OpenRound ∷ name_piece n ∷ []) ++ ((mark_piece marks.Comma ∷ pieces_at Alone a)
      ++ ((mark_piece marks.Comma ∷ pieces_at Alone b) ++ ((mark_piece marks.Comma ∷ pieces_at Alone e) ++ (mark_piece marks.CloseRound ∷ []))))
  pieces_at p (call k out place args) = called_pieces k out (args_pieces args)

  -- arguments joined by commas
  pub args_pieces : ExprTrees → List Piece
  args_pieces none = []
  args_pieces (more a rest) = pieces_at Alone a ++ more_pieces rest

  -- the arguments behind another
  pub more_pieces : ExprTrees → List Piece
  more_pieces none = []
  more_pieces (more a rest) = mark_piece marks.Comma ∷ (pieces_at Alone a ++ more_pieces rest)

-- an expression on its own
abbrev pub expr_pieces : ExprTree → List Piece
expr_pieces t = pieces_at Alone t
