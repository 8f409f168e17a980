-- A body has only forms that are built exactly where none of its tokens begins another, as the number of a subtask does.
use Rattle.std.proofs.Common.{◌≡◌, false, Option, Some, None, refl, arith}
use Rattle.std.specs.Prelude.{pos}
use Rattle.std.proofs.lemmas.Int.{ints}
use Rattle.body_lang.specs.declared.cmp.Cmp.{Cmp}
use Rattle.body_lang.specs.declared.cmp.Cmp.TheVariants as cmps
use Rattle.body_lang.specs.declared.loop_kind.LoopKind.{LoopKind}
use Rattle.body_lang.specs.declared.loop_kind.LoopKind.TheVariants as loops
use Rattle.utopist_lexer.specs.declared.word.Word.TheVariants as words
use Rattle.utopist_lexer.specs.declared.mark.Mark.TheVariants as marks
use Rattle.token_forms.specs.Symbols.{sub}
use Rattle.utopist_parser.specs.Written.{Sign, plus, minus, Scale, times, over, Expression, choice, plain, Chain, one_term, add, Term, one_factor, mul, Factor, negated, literal, variable, round, call, loop}
use Rattle.utopist_parser.specs.ExprSymbols.{sign_mark, scale_mark, cmp_mark, loop_word, spell_expr, spell_chain, spell_term, spell_factor}
use Rattle.utopist_parser.specs.ExprTree.{see_expr, see_chain, see_term, see_factor}
use Rattle.token_forms.specs.Lists.{spell_option}
use Rattle.utopist_parser.specs.FileSymbols.{spell_body}
use Rattle.utopist_parser.specs.FileSeen.{see_option}
use Rattle.concept_unfold.specs.Built.{IsBuiltExpr, IsBuiltBody}
use Rattle.file_accept.specs.Unbuilt.{not_solved, word_opens, mark_opens, is_var}
use Rattle.file_accept.proofs.Watched.{Watched, recast, nothing, a_word, a_mark, a_number, a_name, an_opener, both, before, path_watched}

-- ---- operators

sign_closed : (s : Sign) → mark_opens not_solved (sign_mark s) ≡ false
sign_closed plus = refl
sign_closed minus = refl

scale_closed : (s : Scale) → mark_opens not_solved (scale_mark s) ≡ false
scale_closed times = refl
scale_closed over = refl

cmp_closed : (c : Cmp) → mark_opens not_solved (cmp_mark c) ≡ false
cmp_closed cmps.Less = refl
cmp_closed cmps.AtMost = refl
cmp_closed cmps.Same = refl

loop_closed : (k : LoopKind) → word_opens not_solved (loop_word k) ≡ false
loop_closed loops.Sum = refl
loop_closed loops.Prod = refl
loop_closed loops.Iter = refl

loop_no_var : (k : LoopKind) → is_var (loop_word k) ≡ false
loop_no_var loops.Sum = refl
loop_no_var loops.Prod = refl
loop_no_var loops.Iter = refl

-- ---- expressions

mutual
  -- an expression
  expr_watched : (e : Expression) → Watched (IsBuiltExpr (see_expr e)) (spell_expr e)
  expr_watched (choice a c b met other) =
      a_word words.If refl refl
      (both (chain_watched a) (a_mark (cmp_mark c) (cmp_closed c) (both (chain_watched b) (a_word words.Then refl refl (both (expr_watched met) (a_word words.Else refl refl (expr_watched other)))))))
  expr_watched (plain c) = chain_watched c

  -- terms that are added and subtracted
  chain_watched : (c : Chain) → Watched (IsBuiltExpr (see_chain c)) (spell_chain c)
  chain_watched (one_term t) = term_watched t
  chain_watched (add c sign t) = both (chain_watched c) (a_mark (sign_mark sign) (sign_closed sign) (term_watched t))

  -- factors that are multiplied and divided
  term_watched : (t : Term) → Watched (IsBuiltExpr (see_term t)) (spell_term t)
  term_watched (one_factor f) = factor_watched f
  term_watched (mul t scale f) = both (term_watched t) (a_mark (scale_mark scale) (scale_closed scale) (factor_watched f))

  -- a factor; a number that is written is not negative
  factor_watched : (f : Factor) → Watched (IsBuiltExpr (see_factor f)) (spell_factor f)
  factor_watched (negated f) = a_mark marks.Minus refl (factor_watched f)
  factor_watched (literal n) = recast {A = Unit {0}} (λ u. omega (arith, ints)) (λ h. tt) (a_number (pos n) nothing)
  factor_watched (variable p) = path_watched p
  factor_watched (round e) = a_mark marks.OpenRound refl (before (expr_watched e) (a_mark marks.CloseRound refl nothing))
  factor_watched (call k place first more) = an_opener (sub (pos k.0) (pos k.1) place) (λ c. refl) (λ b. b)
  factor_watched (loop kind n first second each) =
      a_word (loop_word kind) (loop_closed kind) (loop_no_var kind)
      (a_mark marks.OpenRound refl
      (a_name n
      (a_mark marks.Comma refl (both (expr_watched first) (a_mark marks.Comma refl (both (expr_watched second) (a_mark marks.Comma refl (before (expr_watched each) (a_mark marks.CloseRound refl nothing)))))))))

-- ---- bodies

pub body_watched : (o : Option Expression) → Watched (IsBuiltBody (see_option see_expr o)) (spell_option spell_body o)
body_watched None = nothing
body_watched (Some e) = a_mark marks.OpenCurly refl (before (expr_watched e) (a_mark marks.CloseCurly refl nothing))
