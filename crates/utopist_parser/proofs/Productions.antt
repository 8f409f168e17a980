-- The forms of expressions that are one level deeper than their parts, each with its rule.
use Rattle.std.proofs.Common.{◌≡◌, ℕ, suc, max, Bool, true, false, cond, map, Option, Some, None, refl, sym, subst}
use Rattle.std.specs.Prelude.{pos, ◌||◌}
use Rattle.priz_base.specs.declared.place.Place.{Place}
use Rattle.body_lang.specs.declared.cmp.Cmp.{Cmp}
use Rattle.body_lang.specs.declared.cmp.Cmp.TheVariants as cmps
use Rattle.body_lang.specs.declared.loop_kind.LoopKind.{LoopKind}
use Rattle.body_lang.specs.declared.loop_kind.LoopKind.TheVariants as loops
use Rattle.utopist_lexer.specs.declared.word.Word.TheVariants as words
use Rattle.utopist_lexer.specs.declared.mark.Mark.TheVariants as marks
use Rattle.utopist_lexer.specs.declared.token.Kind.TheVariants as kinds
use Rattle.utopist_syntax.specs.Named.{Named}
use Rattle.utopist_syntax.specs.ExprTree as tree
use Rattle.utopist_parser.specs.declared.breadth.Breadth.{Breadth}
use Rattle.token_forms.specs.Symbols.{Symbol, word, mark}
use Rattle.token_forms.specs.steps.Steps.{meets, pick_at}
use Rattle.token_forms.specs.steps.Single.{is_word, is_mark}
use Rattle.token_forms.specs.Lists.{OneOrMore}
use Rattle.utopist_parser.specs.Written.{Expression, Chain, Factor}
use Rattle.utopist_parser.specs.ExprSymbols.{cmp_mark, loop_word}
use Rattle.token_forms.specs.Lists.{all_of}
use Rattle.utopist_parser.specs.ExprTree.{see_expr, see_chain, see_factor}
use Rattle.utopist_parser.specs.Nesting.{nest_expr, nest_chain, nest_factor}
use Rattle.utopist_parser.specs.steps.ReadingExpr.{Nested, cmp_of, loop_of, trees_in, most, negated_step, round_step, call_step, loop_step, choice_step}
use Rattle.token_forms.proofs.SameKind.{some_same}
use Rattle.token_forms.proofs.StepLaws.{Form, Aspect}
use Rattle.token_forms.proofs.Sequence.{both}
use Rattle.token_forms.proofs.Tokens.{one_symbol, pick_keeps}
use Rattle.token_forms.proofs.Singles.{fixed_is, after, name_form, sub_form}
use Rattle.token_forms.proofs.Rules.{Rule, fitting, name_rule, sub_rule, after_word, after_mark, stop, stop_rule, then_rule, map_rule, separated_form, separated_stops, separated_rule}
use Rattle.utopist_parser.proofs.ExprFacts.{seen_expr, IsCloser, closes_chain, closes_expr}
use Rattle.utopist_parser.proofs.Lows.{low_factor_form, low_chain_form, low_expr_form, low_factor, low_chain, low_expr, LowRules}

-- ---- comparisons and loops

abbrev pub cmp_form : Form Cmp
cmp_form = one_symbol (λ c. mark (cmp_mark c))

cmp_found : (c : Cmp) → cmp_of (Some (mark (cmp_mark c))) ≡ Some c
cmp_found cmps.Less = refl
cmp_found cmps.AtMost = refl
cmp_found cmps.Same = refl

cmp_finds : (c : Symbol) (v : Cmp) → cmp_of (Some c) ≡ Some v → (x : Cmp) × (c ≡ mark (cmp_mark x)) × (x ≡ v)
cmp_finds c v e = go (is_mark marks.Less c) refl (is_mark marks.AtMost c) refl (is_mark marks.Equal c) refl e where
  go : (r : Bool) → is_mark marks.Less c ≡ r → (s : Bool) → is_mark marks.AtMost c ≡ s → (t : Bool) → is_mark marks.Equal c ≡ t → cond r (Some cmps.Less) (cond s (Some cmps.AtMost) (cond t (Some cmps.Same) None)) ≡ Some v → (x : Cmp) × (c ≡ mark (cmp_mark x)) × (x ≡ v)
  go true i s j t k h = (cmps.Less, fixed_is (kinds.Mark marks.Less) tt c i, some_same cmps.Less v h)
  go false i true j t k h = (cmps.AtMost, fixed_is (kinds.Mark marks.AtMost) tt c j, some_same cmps.AtMost v h)
  go false i false j true k h = (cmps.Same, fixed_is (kinds.Mark marks.Equal) tt c k, some_same cmps.Same v h)
  go false i false j false k h = absurd cc

cmp_rule : {m : Aspect} {room : ℕ} → Rule m room cmp_form (λ c. c) (pick_at cmp_of)
cmp_rule {m} {room} = record {
  keeps = pick_keeps cmp_of (λ c. mark (cmp_mark c)) (λ c. c) refl cmp_found cmp_finds cmps.Less m room;
  some = cmps.Less;
  fits = fitting m cmp_form cmps.Less room tt;
  enters = λ o. tt;
}

abbrev pub kind_form : Form LoopKind
kind_form = one_symbol (λ k. word (loop_word k))

kind_found : (k : LoopKind) → loop_of (Some (word (loop_word k))) ≡ Some k
kind_found loops.Sum = refl
kind_found loops.Prod = refl
kind_found loops.Iter = refl

kind_finds : (c : Symbol) (v : LoopKind) → loop_of (Some c) ≡ Some v → (x : LoopKind) × (c ≡ word (loop_word x)) × (x ≡ v)
kind_finds c v e = go (is_word words.Sum c) refl (is_word words.Prod c) refl (is_word words.Iter c) refl e where
  go : (r : Bool) → is_word words.Sum c ≡ r → (s : Bool) → is_word words.Prod c ≡ s → (t : Bool) → is_word words.Iter c ≡ t → cond r (Some loops.Sum) (cond s (Some loops.Prod) (cond t (Some loops.Iter) None)) ≡ Some v → (x : LoopKind) × (c ≡ word (loop_word x)) × (x ≡ v)
  go true i s j t k h = (loops.Sum, fixed_is (kinds.Word words.Sum) tt c i, some_same loops.Sum v h)
  go false i true j t k h = (loops.Prod, fixed_is (kinds.Word words.Prod) tt c j, some_same loops.Prod v h)
  go false i false j true k h = (loops.Iter, fixed_is (kinds.Word words.Iter) tt c k, some_same loops.Iter v h)
  go false i false j false k h = absurd cc

kind_rule : {m : Aspect} {room : ℕ} → Rule m room kind_form (λ k. k) (pick_at loop_of)
kind_rule {m} {room} = record {
  keeps = pick_keeps loop_of (λ k. word (loop_word k)) (λ k. k) refl kind_found kind_finds loops.Sum m room;
  some = loops.Sum;
  fits = fitting m kind_form loops.Sum room tt;
  enters = λ o. tt;
}

-- the keyword of a loop
pub kind_begins : (c : Symbol) → (is_word words.Sum c || (is_word words.Prod c || is_word words.Iter c)) ≡ true → (k : LoopKind) × (word (loop_word k) ≡ c)
kind_begins c e = go (is_word words.Sum c) refl (is_word words.Prod c) refl (is_word words.Iter c) refl e where
  go : (r : Bool) → is_word words.Sum c ≡ r → (s : Bool) → is_word words.Prod c ≡ s → (t : Bool) → is_word words.Iter c ≡ t → (r || (s || t)) ≡ true → (k : LoopKind) × (word (loop_word k) ≡ c)
  go true i s j t k h = (loops.Sum, sym (fixed_is (kinds.Word words.Sum) tt c i))
  go false i true j t k h = (loops.Prod, sym (fixed_is (kinds.Word words.Prod) tt c j))
  go false i false j true k h = (loops.Iter, sym (fixed_is (kinds.Word words.Iter) tt c k))
  go false i false j false k h = absurd cc

-- ---- what closes an expression

cmp_closes : (c : Cmp) → IsCloser (Some (mark (cmp_mark c)))
cmp_closes cmps.Less = (refl, refl, refl)
cmp_closes cmps.AtMost = (refl, refl, refl)
cmp_closes cmps.Same = (refl, refl, refl)

comma_closes : (o : Option Symbol) → meets (is_mark marks.Comma) o ≡ true → IsCloser o
comma_closes None e = absurd cc
comma_closes (Some c) e = subst (λ (d : Symbol). IsCloser (Some d)) (sym (fixed_is (kinds.Mark marks.Comma) tt c e)) (refl, refl, refl)

-- ---- the forms

module _ (b : Breadth) where
  -- "-" factor
  abbrev pub negated_form : Form Factor
  negated_form = after (kinds.Mark marks.Minus) (low_factor_form b)

  -- "(" expr ")"
  abbrev pub round_form : Form (Expression × Unit {0})
  round_form = after (kinds.Mark marks.OpenRound) (both (low_expr_form b) (stop marks.CloseRound))

  -- Sub "(" expr {"," expr} ")"
  abbrev pub call_form : Form (((ℕ × ℕ) × Place) × (OneOrMore Expression × Unit {0}))
  call_form = both sub_form (after (kinds.Mark marks.OpenRound) (both (separated_form marks.Comma (low_expr_form b)) (stop marks.CloseRound)))

  -- ("sum" | "prod" | "iter") "(" Name "," expr "," expr "," expr ")"
  abbrev pub loop_form : Form (LoopKind × (Named × (Expression × (Expression × (Expression × Unit {0})))))
  loop_form =
      both kind_form
      (after (kinds.Mark marks.OpenRound)
      (both name_form
      (after (kinds.Mark marks.Comma)
      (both (low_expr_form b)
      (after (kinds.Mark marks.Comma)
      (both (low_expr_form b)
      (after (kinds.Mark marks.Comma)
      (both (low_expr_form b) (stop marks.CloseRound)))))))))

  -- "if" chain cmp chain "then" expr "else" expr
  abbrev pub choice_form : Form (Chain × (Cmp × (Chain × (Expression × Expression))))
  choice_form =
      after (kinds.Word words.If)
      (both (low_chain_form b)
      (both cmp_form (both (low_chain_form b) (after (kinds.Word words.Then) (both (low_expr_form b) (after (kinds.Word words.Else) (low_expr_form b)))))))

-- ---- what they mean

abbrev pub seen_negated : Factor → Nested
seen_negated f = (tree.neg (see_factor f), suc (nest_factor f))

abbrev pub seen_round : Expression × Unit {0} → Nested
seen_round p = (see_expr p.0, suc (nest_expr p.0))

abbrev pub seen_call : ((ℕ × ℕ) × Place) × (OneOrMore Expression × Unit {0}) → Nested
seen_call p = (tree.call (pos p.0.0.0) (pos p.0.0.1) p.0.1 (trees_in (map seen_expr (all_of p.1.0))), suc (most (map seen_expr (all_of p.1.0))))

abbrev pub seen_loop : LoopKind × (Named × (Expression × (Expression × (Expression × Unit {0})))) → Nested
seen_loop p =
    let a = p.1.1.0 in
    let z = p.1.1.1.0 in
    let e = p.1.1.1.1.0 in
    (tree.loop p.0 p.1.0 (see_expr a) (see_expr z) (see_expr e), suc (max (nest_expr a) (max (nest_expr z) (nest_expr e))))

abbrev pub seen_choice : Chain × (Cmp × (Chain × (Expression × Expression))) → Nested
seen_choice p =
    let d = p.1.1.0 in
    let met = p.1.1.1.0 in
    let other = p.1.1.1.1 in
    (tree.choice p.1.0 (see_chain p.0) (see_chain d) (see_expr met) (see_expr other), suc (max (max (nest_chain p.0) (nest_chain d)) (max (nest_expr met) (nest_expr other))))

-- ---- their rules

pub negated_rule : (b : Breadth) (m : Aspect) (room : ℕ) → LowRules m room b → Rule m room (negated_form b) seen_negated (negated_step (low_factor b))
negated_rule b m room low = after_mark marks.Minus (map_rule (λ v. (tree.neg v.0, suc v.1)) low.factor)

pub round_rule : (b : Breadth) (m : Aspect) (room : ℕ) → LowRules m room b → Rule m room (round_form b) seen_round (round_step (low_expr b))
round_rule b m room low =
    after_mark marks.OpenRound (then_rule (λ e u. seen_round (e, u)) _ low.expr (λ e. stop_rule marks.CloseRound (seen_round (e, tt))) (λ e u rest s. closes_expr e _ (refl, refl, refl)))

arguments_stop : (b : Breadth) (es : OneOrMore Expression) → (separated_form marks.Comma (low_expr_form b)).Stops es (Some (mark marks.CloseRound))
arguments_stop b es = separated_stops marks.Comma (low_expr_form b) (Some (mark marks.CloseRound)) (λ e. closes_expr e _ (refl, refl, refl)) refl es

pub call_rule : (b : Breadth) (m : Aspect) (room : ℕ) → LowRules m room b → Rule m room (call_form b) seen_call (call_step (low_expr b))
call_rule b m room low =
    then_rule (λ k p. seen_call (k, p)) _ sub_rule
    (λ k. after_mark marks.OpenRound
    (then_rule (λ es u. seen_call (k, (es, u))) _ (separated_rule marks.Comma (λ e o s. closes_expr e o (comma_closes o s)) low.expr) (λ es. stop_rule marks.CloseRound (seen_call (k, (es, tt)))) (λ es u rest s. arguments_stop b es)))
    (λ k p rest s. tt)

pub loop_rule : (b : Breadth) (m : Aspect) (room : ℕ) → LowRules m room b → Rule m room (loop_form b) seen_loop (loop_step (low_expr b))
loop_rule b m room low =
    then_rule (λ k p. seen_loop (k, p)) _ kind_rule
    (λ k. after_mark marks.OpenRound
    (then_rule (λ n p. seen_loop (k, (n, p))) _ name_rule
    (λ n. after_mark marks.Comma
    (then_rule (λ a p. seen_loop (k, (n, (a, p)))) _ low.expr
    (λ a. after_mark marks.Comma
    (then_rule (λ z p. seen_loop (k, (n, (a, (z, p))))) _ low.expr
    (λ z. after_mark marks.Comma
    (then_rule (λ e u. seen_loop (k, (n, (a, (z, (e, u)))))) _ low.expr (λ e. stop_rule marks.CloseRound (seen_loop (k, (n, (a, (z, (e, tt)))))))
    (λ e u rest s. closes_expr e _ (refl, refl, refl))))
    (λ z p rest s. closes_expr z _ (refl, refl, refl))))
    (λ a p rest s. closes_expr a _ (refl, refl, refl))))
    (λ n p rest s. tt)))
    (λ k p rest s. tt)

pub choice_rule : (b : Breadth) (m : Aspect) (room : ℕ) → LowRules m room b → Rule m room (choice_form b) seen_choice (choice_step (low_chain b) (low_expr b))
choice_rule b m room low =
    after_word words.If
    (then_rule (λ a p. seen_choice (a, p)) _ low.chain
    (λ a. then_rule (λ c p. seen_choice (a, (c, p))) _ cmp_rule
    (λ c. then_rule (λ d p. seen_choice (a, (c, (d, p)))) _ low.chain
    (λ d. after_word words.Then
    (then_rule (λ met other. seen_choice (a, (c, (d, (met, other))))) _ low.expr
    (λ met. after_word words.Else (map_rule (λ v. (tree.choice c (see_chain a) (see_chain d) (see_expr met) v.0, suc (max (max (nest_chain a) (nest_chain d)) (max (nest_expr met) v.1)))) low.expr))
    (λ met other rest s. closes_expr met _ (refl, refl, refl))))
    (λ d p rest s. closes_chain d _ (refl, refl, refl)))
    (λ c p rest s. tt))
    (λ a p rest s. closes_chain a _ (cmp_closes p.0)))
