-- Reading expressions, with the nesting of what was read: a reader at a room reads what is nested at most one more than the room.
use Rattle.std.specs.Prelude.{ℕ, zero, suc, max, nat_le, Bool, true, false, ◌&&◌, ◌||◌, if◌then◌else◌, List, ◌∷◌, [], length, drop, Option, Some, None, Ok, Err}
use Rattle.body_lang.specs.declared.op.Op.{Op}
use Rattle.body_lang.specs.declared.op.Op.TheVariants as ops
use Rattle.body_lang.specs.declared.cmp.Cmp.{Cmp}
use Rattle.body_lang.specs.declared.cmp.Cmp.TheVariants as cmps
use Rattle.body_lang.specs.declared.loop_kind.LoopKind.{LoopKind}
use Rattle.body_lang.specs.declared.loop_kind.LoopKind.TheVariants as loops
use Rattle.utopist_lexer.specs.declared.word.Word.TheVariants as words
use Rattle.utopist_lexer.specs.declared.mark.Mark.TheVariants as marks
use Rattle.utopist_lexer.specs.declared.token.Kind.{Kind}
use Rattle.utopist_lexer.specs.declared.token.Kind.TheVariants as kinds
use Rattle.utopist_syntax.specs.ExprTree.{ExprTree, ExprTrees, num, path, neg, op, choice, loop, call, none, more}
use Rattle.utopist_syntax.specs.declared.expr.Expr.{Expr}
use Rattle.utopist_syntax.specs.View.{tree_of}
use Rattle.utopist_parser.specs.declared.breadth.Breadth.{Breadth}
use Rattle.utopist_parser.specs.declared.breadth.Breadth.TheVariants as breadth
use Rattle.utopist_parser.specs.declared.group.Group.{Group}
use Rattle.utopist_parser.specs.declared.group.Group.TheVariants as group
use Rattle.token_forms.specs.Symbols.{Symbol}
use Rattle.token_forms.specs.declared.parse_stop.Why.TheVariants.{TooDeep}
use Rattle.token_forms.specs.steps.Steps.{Reading, ReadOf, StepOf, ◌>>=◌, on_ok, give, next, meets, choose_at, pick_at, deeper_at}
use Rattle.token_forms.specs.steps.Single.{is_kind, is_word, is_mark, is_sub, fixed_at, word_at, mark_at, name_at, number_at, sub_at}
use Rattle.token_forms.specs.steps.Lists.{separated_at}
use Rattle.utopist_parser.specs.steps.Lists.{path_at}

-- a tree and its nesting
abbrev pub Nested : Type 0
Nested = ExprTree × ℕ

-- what was read as its tree and its nesting
abbrev pub as_nested : Expr × ℕ → Nested
as_nested x = (tree_of x.0, x.1)

-- ---- operators

-- "+" | "-"
abbrev pub sign_of : Option Symbol → Option Op
sign_of o = if meets (is_mark marks.Plus) o then Some ops.Add else (if meets (is_mark marks.Minus) o then Some ops.Sub else None)

-- "*" | "/"
abbrev pub scale_of : Option Symbol → Option Op
scale_of o = if meets (is_mark marks.Star) o then Some ops.Mul else (if meets (is_mark marks.Slash) o then Some ops.Div else None)

-- an operator and its two operands, nested one deeper than the deeper of them
abbrev pub op_over : Op → Nested → Nested → Nested
op_over o v w = (op o v.0 w.0, suc (max v.1 w.1))

-- behind an operand: an operator for which there is room, or none
abbrev pub one_more : Option Op → ℕ → Nested → List Symbol → (Op → Reading Nested) → Reading Nested
one_more None room v ts go_on = Ok (v, ts)
one_more (Some o) room v ts go_on = if nat_le v.1 room then go_on o else Err (TooDeep, length ts)

-- {OPERATOR operand}, grouped from the left, at most so many
unfoldable pub more_at : (Option Symbol → Option Op) → ReadOf Nested → ℕ → ℕ → Nested → ReadOf Nested
more_at find operand room zero v ts = one_more (find (next ts)) room v ts (λ o. Err (TooDeep, length ts))
more_at find operand room (suc k) v ts =
    one_more (find (next ts)) room v ts (λ o. on_ok (operand (drop 1 ts)) (λ x. more_at find operand room k (op_over o v x.0) x.1))

-- first {OPERATOR operand}
abbrev pub group_at : (Option Symbol → Option Op) → StepOf Nested → StepOf Nested → StepOf Nested
group_at find first operand room ts = on_ok (first room ts) (λ x. more_at find (operand room) room room x.0 x.1)

-- ---- the parts that are one level deeper, where `factor`, `chain` and `expr` read theirs

-- the most that a part is nested, or 0 where there are none
abbrev pub most : List Nested → ℕ
most [] = 0
most (v ∷ vs) = max v.1 (most vs)

-- the trees of several
abbrev pub trees_in : List Nested → ExprTrees
trees_in [] = none
trees_in (v ∷ vs) = more v.0 (trees_in vs)

-- what stands behind a keyword or a mark
abbrev pub behind_step : Kind → StepOf Nested → StepOf Nested
behind_step kind expr = do
  u ← fixed_at kind
  expr

-- "-" factor
abbrev pub negated_step : StepOf Nested → StepOf Nested
negated_step factor = do
  u ← mark_at marks.Minus
  v ← factor
  give (neg v.0, suc v.1)

-- "(" expr ")"
abbrev pub round_step : StepOf Nested → StepOf Nested
round_step expr = do
  u ← mark_at marks.OpenRound
  v ← expr
  u ← mark_at marks.CloseRound
  give (v.0, suc v.1)

-- Sub "(" expr {"," expr} ")"
abbrev pub call_step : StepOf Nested → StepOf Nested
call_step expr = do
  k ← sub_at
  u ← mark_at marks.OpenRound
  vs ← separated_at marks.Comma expr
  u ← mark_at marks.CloseRound
  give (call k.0.0 k.0.1 k.1 (trees_in vs), suc (most vs))

-- "sum" | "prod" | "iter"
abbrev pub loop_of : Option Symbol → Option LoopKind
loop_of o =
    if meets (is_word words.Sum) o then Some loops.Sum
    else (if meets (is_word words.Prod) o then Some loops.Prod else (if meets (is_word words.Iter) o then Some loops.Iter else None))

-- ("sum" | "prod" | "iter") "(" Name "," expr "," expr "," expr ")"
abbrev pub loop_step : StepOf Nested → StepOf Nested
loop_step expr = do
  kind ← pick_at loop_of
  u ← mark_at marks.OpenRound
  n ← name_at
  u ← mark_at marks.Comma
  first ← expr
  u ← mark_at marks.Comma
  second ← expr
  u ← mark_at marks.Comma
  each ← expr
  u ← mark_at marks.CloseRound
  give (loop kind n first.0 second.0 each.0, suc (max first.1 (max second.1 each.1)))

-- "<" | "<=" | "="
abbrev pub cmp_of : Option Symbol → Option Cmp
cmp_of o =
    if meets (is_mark marks.Less) o then Some cmps.Less
    else (if meets (is_mark marks.AtMost) o then Some cmps.AtMost else (if meets (is_mark marks.Equal) o then Some cmps.Same else None))

-- "if" chain cmp chain "then" expr "else" expr
abbrev pub choice_step : StepOf Nested → StepOf Nested → StepOf Nested
choice_step chain expr = do
  u ← word_at words.If
  a ← chain
  c ← pick_at cmp_of
  b ← chain
  u ← word_at words.Then
  met ← expr
  u ← word_at words.Else
  other ← expr
  give (choice c a.0 b.0 met.0 other.0, suc (max (max a.1 b.1) (max met.1 other.1)))

-- Number
abbrev pub literal_step : StepOf Nested
literal_step = do
  n ← number_at
  give (num n, 1)

-- path
abbrev pub variable_step : StepOf Nested
variable_step = do
  p ← path_at
  give (path p.parts, 1)

-- ---- all levels

-- whether choices, calls and loops may stand there
abbrev pub is_all : Breadth → Bool
is_all breadth.All = true
is_all breadth.Arithmetic = false

-- whether a symbol begins a call that may stand there
abbrev pub begins_call : Breadth → Symbol → Bool
begins_call b c = is_all b && is_sub c

-- whether a symbol begins a loop that may stand there
abbrev pub begins_loop : Breadth → Symbol → Bool
begins_loop b c = is_all b && (is_word words.Sum c || (is_word words.Prod c || is_word words.Iter c))

-- whether a symbol begins a choice that may stand there
abbrev pub begins_choice : Breadth → Symbol → Bool
begins_choice b c = is_all b && is_word words.If c

-- factor = "-" factor | Number | path | "(" expr ")" | call | loop
abbrev pub factor_step : Breadth → StepOf Nested → StepOf Nested → StepOf Nested
factor_step b factor expr =
    choose_at (is_mark marks.Minus) (deeper_at (negated_step factor))
    (choose_at (is_mark marks.OpenRound) (deeper_at (round_step expr))
    (choose_at (begins_call b) (deeper_at (call_step expr))
    (choose_at (begins_loop b) (deeper_at (loop_step expr))
    (choose_at (is_kind kinds.Name) variable_step literal_step))))

-- the readers of each level at one room
pub record Levels : Type 0 where
  pub factor : ReadOf Nested
  pub term : ReadOf Nested
  pub chain : ReadOf Nested
  pub expr : ReadOf Nested

-- a reader that is the same at each room
abbrev pub settled : {V : Type 0} → ReadOf V → StepOf V
settled read room = read

-- no room: the next symbol is too deep
abbrev pub too_deep : ReadOf Nested
too_deep ts = Err (TooDeep, length ts)

-- the readers where nothing may be nested
abbrev pub no_levels : Levels
no_levels = record { factor = too_deep; term = too_deep; chain = too_deep; expr = too_deep }

-- a factor, over the readers one level below
abbrev pub factor_over : Breadth → Levels → StepOf Nested
factor_over b low = factor_step b (settled low.factor) (settled low.expr)

-- term = factor {("*" | "/") factor}, over the readers one level below
abbrev pub term_over : Breadth → Levels → StepOf Nested
term_over b low = group_at scale_of (factor_over b low) (settled low.factor)

-- chain = term {("+" | "-") term}, over the readers one level below
abbrev pub chain_over : Breadth → Levels → StepOf Nested
chain_over b low = group_at sign_of (term_over b low) (settled low.term)

-- expr = chain | choice, the latter outside arithmetic, over the readers one level below
abbrev pub expr_over : Breadth → Levels → StepOf Nested
expr_over b low = choose_at (begins_choice b) (deeper_at (choice_step (settled low.chain) (settled low.expr))) (chain_over b low)

-- all four at a room, over the readers one level below
abbrev pub levels_over : Breadth → ℕ → Levels → Levels
levels_over b room low = record { factor = factor_over b low room; term = term_over b low room; chain = chain_over b low room; expr = expr_over b low room }

-- the readers of what is nested at most so deep
abbrev pub levels_within : Breadth → ℕ → Levels
levels_within b zero = no_levels
levels_within b (suc limit) = levels_over b limit (levels_within b limit)

-- a factor, nested at most one more than the room
unfoldable pub factor_at : Breadth → StepOf Nested
factor_at b room = (levels_over b room (levels_within b room)).factor

-- a term, nested at most one more than the room
unfoldable pub term_at : Breadth → StepOf Nested
term_at b room = (levels_over b room (levels_within b room)).term

-- a chain, nested at most one more than the room
unfoldable pub chain_at : Breadth → StepOf Nested
chain_at b room = (levels_over b room (levels_within b room)).chain

-- an expression, nested at most one more than the room
unfoldable pub expr_at : Breadth → StepOf Nested
expr_at b room = (levels_over b room (levels_within b room)).expr

-- ---- groups

-- the operators of a group
abbrev pub operator_of : Group → Option Symbol → Option Op
operator_of group.Chain = sign_of
operator_of group.Term = scale_of

-- a group, nested at most one more than the room
abbrev pub group_within : Group → Breadth → StepOf Nested
group_within group.Chain = chain_at
group_within group.Term = term_at

-- what its operators join
abbrev pub operand_at : Group → Breadth → StepOf Nested
operand_at group.Chain = term_at
operand_at group.Term = factor_at
