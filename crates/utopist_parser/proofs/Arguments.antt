-- The arguments of a call, read one by one, as a loop does.
use Rattle.std.proofs.Common.{◌≡◌, ℕ, ◌<◌, max, true, false, List, [], ◌∷◌, ◌++◌, length, Ok, refl, sym, ap, ◌∙◌, arith}
use Rattle.utopist_lexer.specs.declared.mark.Mark.TheVariants as marks
use Rattle.utopist_syntax.specs.declared.expr.Expr.{Expr}
use Rattle.utopist_syntax.specs.ExprTree.{ExprTrees, none, more}
use Rattle.utopist_syntax.specs.View.{tree_of, trees_of}
use Rattle.utopist_parser.specs.declared.breadth.Breadth.{Breadth}
use Rattle.token_forms.specs.Symbols.{Symbol}
use Rattle.token_forms.specs.steps.Steps.{Reading, on_ok, next, meets}
use Rattle.token_forms.specs.steps.Single.{is_mark}
use Rattle.token_forms.specs.steps.Lists.{next_at, separated_at}
use Rattle.utopist_parser.specs.steps.ReadingExpr.{Nested, settled, most, trees_in, expr_at}
use Rattle.token_forms.specs.steps.Answers.{StoppedAt, Fails}
use Rattle.token_forms.proofs.Loops.{fails_on, goes_on, ends, fails}
use Rattle.token_forms.proofs.Starts.{Separated, separated_starts, separated_fails}

-- the most of the nestings with one more
most_more : (front : List Nested) (v : Nested) → most (front ++ v ∷ []) ≡ max (most front) v.1
most_more [] v = omega arith
most_more (a ∷ front) v = omega (arith, most_more front v)

-- the trees with one more
trees_more : (front : List Nested) (args : List Expr) (v : Nested) (arg : Expr) → trees_in front ≡ trees_of args → v.0 ≡ tree_of arg → trees_in (front ++ v ∷ []) ≡ trees_of (args ++ arg ∷ [])
trees_more [] [] v arg h i = λ j. more (i j) none
trees_more [] (x ∷ args) v arg h i = absurd cc
trees_more (a ∷ front) [] v arg h i = absurd cc
trees_more (a ∷ front) (x ∷ args) v arg h i =
    let head : a.0 ≡ tree_of x = cc in
    let tail : trees_in front ≡ trees_of args = cc in
    λ j. more (head j) (trees_more front args v arg tail i j)

module _ (b : Breadth) (room : ℕ) (ts : List Symbol) where
  -- all arguments, and the most of their nestings
  abbrev pub all_arguments : Reading (ExprTrees × ℕ)
  all_arguments = on_ok (separated_at marks.Comma (settled (expr_at b room)) 63 ts) (λ p. Ok ((trees_in p.0, most p.0), p.1))

  -- the arguments so far, and the most of their nestings
  pub record Arguments (args : List Expr) (nest : ℕ) (rest : List Symbol) : Type 0 where
    pub front : List Nested
    pub trees : trees_in front ≡ trees_of args
    pub nests : most front ≡ nest
    pub gives : Separated marks.Comma (settled (expr_at b room)) front rest ts

  -- the first argument, as it was pushed
  pub first_argument : (empty args : List Expr) (arg : Expr) (nest : ℕ) (rest : List Symbol) → empty ≡ [] → args ≡ empty ++ arg ∷ [] → expr_at b room ts ≡ Ok ((tree_of arg, nest), rest) → Arguments args nest rest
  first_argument empty args arg nest rest none_yet pushed e = record {
    front = (tree_of arg, nest) ∷ [];
    trees = sym (ap trees_of (pushed ∙ ap (λ (l : List Expr). l ++ arg ∷ []) none_yet));
    nests = omega arith;
    gives = separated_starts marks.Comma (settled (expr_at b room)) ts (tree_of arg, nest) rest e;
  }

  -- where the list fails, so do the arguments
  all_fail : (e : StoppedAt) → Fails e (separated_at marks.Comma (settled (expr_at b room)) 63 ts) → Fails e all_arguments
  all_fail e h = fails_on e (separated_at marks.Comma (settled (expr_at b room)) 63 ts) all_arguments (λ x i. rw i refl) h

  -- the first argument fails
  pub no_argument : (e : StoppedAt) → Fails e (expr_at b room ts) → Fails e all_arguments
  no_argument e h = all_fail e (separated_fails marks.Comma (settled (expr_at b room)) e ts h)

  -- a further argument fails
  pub argument_fails : (e : StoppedAt) (args : List Expr) (nest : ℕ) (rest : List Symbol) → true ≡ meets (is_mark marks.Comma) (next rest) → Fails e (next_at marks.Comma (settled (expr_at b room)) 63 rest) → Arguments args nest rest → Fails e all_arguments
  argument_fails e args nest rest more_comes h so_far = all_fail e (fails (is_mark marks.Comma) (next_at marks.Comma (settled (expr_at b room)) 63) e so_far.front rest _ more_comes h so_far.gives)

  -- one more argument, as it was pushed
  pub argument_on : (args args' : List Expr) (nest nest' : ℕ) (rest : List Symbol) (arg : Expr) (n : ℕ) (after : List Symbol) → true ≡ meets (is_mark marks.Comma) (next rest) → next_at marks.Comma (settled (expr_at b room)) 63 rest ≡ Ok ((tree_of arg, n), after) → length after < length rest
      → args' ≡ args ++ arg ∷ [] → nest' ≡ max nest n → Arguments args nest rest → Arguments args' nest' after
  argument_on args args' nest nest' rest arg n after more_comes e shorter pushed is so_far = record {
    front = so_far.front ++ (tree_of arg, n) ∷ [];
    trees = trees_more so_far.front args (tree_of arg, n) arg so_far.trees refl ∙ sym (ap trees_of pushed);
    nests = omega (arith, most_more so_far.front (tree_of arg, n), so_far.nests);
    gives = goes_on (is_mark marks.Comma) (next_at marks.Comma (settled (expr_at b room)) 63) so_far.front rest (tree_of arg, n) after _ more_comes e shorter so_far.gives;
  }

  -- no comma follows: the arguments so far are all
  pub arguments_end : (args : List Expr) (nest : ℕ) (rest : List Symbol) → false ≡ meets (is_mark marks.Comma) (next rest) → Arguments args nest rest → all_arguments ≡ Ok ((trees_of args, nest), rest)
  arguments_end args nest rest stops so_far =
      let all : separated_at marks.Comma (settled (expr_at b room)) 63 ts ≡ Ok (so_far.front, rest) = ends (is_mark marks.Comma) (next_at marks.Comma (settled (expr_at b room)) 63) so_far.front rest _ stops so_far.gives in
      rw all (λ j. Ok ((so_far.trees j, so_far.nests j), rest))
