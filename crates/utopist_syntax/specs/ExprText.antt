-- The canonical text of an expression.
use Rattle.std.specs.Prelude.{ℕ, ℤ, pos, if◌then◌else◌, List, [], ◌++◌, codes}
use Rattle.std.specs.Ordering.{int_eq}
use Rattle.std.specs.Fmt.{signed_decimal}
use Rattle.body_lang.specs.declared.op.Op.{Op}
use Rattle.body_lang.specs.declared.op.Op.TheVariants.{Add, Sub, Mul, Div}
use Rattle.body_lang.specs.declared.cmp.Cmp.{Cmp}
use Rattle.body_lang.specs.declared.cmp.Cmp.TheVariants.{Less, AtMost, Same}
use Rattle.body_lang.specs.declared.loop_kind.LoopKind.{LoopKind}
use Rattle.body_lang.specs.declared.loop_kind.LoopKind.TheVariants.{Sum, Prod, Iter}
use Rattle.utopist_syntax.specs.declared.position.Position.{Position}
use Rattle.utopist_syntax.specs.declared.position.Position.TheVariants.{Alone, Compared, Negated, LeftOf, RightOf}
use Rattle.utopist_syntax.specs.ExprTree.{ExprTree, ExprTrees, num, path, neg, op, choice, loop, call, none, more}
use Rattle.utopist_syntax.specs.PathText.{names_text}
use Rattle.utopist_syntax.specs.Round.{round, rounds_op, rounds_choice}

-- an operator, with its spaces
abbrev pub op_text : Op → List ℕ
op_text Add = codes " + "
op_text Sub = codes " - "
op_text Mul = codes " * "
op_text Div = codes " / "

-- a comparison, with its spaces
abbrev pub cmp_text : Cmp → List ℕ
cmp_text Less = codes " < "
cmp_text AtMost = codes " <= "
cmp_text Same = codes " = "

-- the word of a loop
abbrev pub loop_text : LoopKind → List ℕ
loop_text Sum = codes "sum"
loop_text Prod = codes "prod"
loop_text Iter = codes "iter"

-- nothing for the first output, "." and the number for another
abbrev pub out_text : ℤ → List ℕ
out_text out = if int_eq out (pos 1) then [] else codes "." ++ signed_decimal out

-- the k-th subtask, and which of its outputs is asked for
abbrev pub sub_spelling : ℤ → ℤ → List ℕ
sub_spelling k out = codes "$" ++ (signed_decimal k ++ out_text out)

-- a call, with the text of its arguments
abbrev pub call_text : ℤ → ℤ → List ℕ → List ℕ
call_text k out args = sub_spelling k out ++ (codes "(" ++ (args ++ codes ")"))

abbrev mutual
  -- an expression at its position
  pub text_at : Position → ExprTree → List ℕ
  text_at p (num n) = signed_decimal n
  text_at p (path names) = names_text (codes ".") names
  text_at p (neg a) = codes "-" ++ text_at Negated a
  text_at p (op o a b) = round (rounds_op p o) (text_at (LeftOf o) a ++ (op_text o ++ text_at (RightOf o) b))
  text_at p (choice c a b t e) =
      round (rounds_choice p)
      ((codes "if " ++ text_at Compared a) ++ ((cmp_text c ++ text_at Compared b)
      ++ ((codes " then " ++ text_at Alone t) ++ (codes " else " ++ text_at Alone e))))
  text_at p (loop kind name a b e) =
      (loop_text kind ++ (codes "(" ++ name.text)) ++ ((codes ", " ++ text_at Alone a)
      ++ ((codes ", " ++ text_at Alone b) ++ ((codes ", " ++ text_at Alone e) ++ codes ")")))
  text_at p (call k out place args) = call_text k out (args_text args)

  -- arguments joined by commas
  pub args_text : ExprTrees → List ℕ
  args_text none = []
  args_text (more a rest) = text_at Alone a ++ more_args_text rest

  -- the arguments behind another
  pub more_args_text : ExprTrees → List ℕ
  more_args_text none = []
  more_args_text (more a rest) = codes ", " ++ (text_at Alone a ++ more_args_text rest)

-- an expression on its own
abbrev pub expr_text : ExprTree → List ℕ
expr_text t = text_at Alone t
