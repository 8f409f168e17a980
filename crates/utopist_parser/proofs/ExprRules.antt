-- The rules of all levels of expressions, at each room.
use Rattle.std.proofs.Common.{◌≡◌, ℕ, zero, suc, ◌≤◌, true, false, List, ◌∷◌, ◌++◌, drop, Option, refl, sym, ap, subst, append_assoc, arith, inl, inr}
use Rattle.std.specs.Prelude.{◌⊎◌}
use Rattle.body_lang.specs.declared.cmp.Cmp.{Cmp}
use Rattle.body_lang.specs.declared.cmp.Cmp.TheVariants as cmps
use Rattle.body_lang.specs.declared.loop_kind.LoopKind.TheVariants as loops
use Rattle.utopist_lexer.specs.declared.word.Word.TheVariants as words
use Rattle.utopist_lexer.specs.declared.token.Kind.TheVariants as kinds
use Rattle.utopist_parser.specs.declared.breadth.Breadth.{Breadth}
use Rattle.utopist_parser.specs.declared.breadth.Breadth.TheVariants as breadth
use Rattle.token_forms.specs.Symbols.{Symbol, mark}
use Rattle.token_forms.specs.steps.Steps.{StepOf, next, meets, choose_at, deeper_at}
use Rattle.token_forms.specs.steps.Single.{is_word}
use Rattle.utopist_parser.specs.Written.{Expression, choice, plain, Chain, one_term, add, Term, one_factor, mul, Factor, negated, literal, variable, round, call, loop}
use Rattle.utopist_parser.specs.ExprSymbols.{sign_mark, scale_mark, spell_expr, spell_chain, spell_term, spell_factor}
use Rattle.utopist_parser.specs.steps.ReadingExpr.{Nested, sign_of, scale_of, group_at, choice_step, factor_step, factor_at, term_at, chain_at, expr_at}
use Rattle.token_forms.proofs.StepLaws.{Form, AgainAt, Aspect, again_only, all_laws, Fitting}
use Rattle.token_forms.proofs.Recast.{recast, reform_keeps, same_keeps}
use Rattle.token_forms.proofs.Choice.{either, see_either}
use Rattle.utopist_parser.proofs.Levels.{below, IfRoom, below_keeps}
use Rattle.utopist_parser.proofs.Groups.{Grouping, part_form, operand_form, group_form, Operand, group_keeps}
use Rattle.token_forms.proofs.Singles.{fixed_is}
use Rattle.token_forms.proofs.Rules.{Rule, fitting_by, recast_rule}
use Rattle.utopist_parser.proofs.ExprFacts.{seen_factor, seen_term, seen_chain, seen_expr, factor_nest, term_nest, chain_nest, expr_nest, AllowedFactor, AllowedTerm, AllowedChain, AllowedExpr, FactorStops, TermStops, ChainStops, ExprStops}
use Rattle.utopist_parser.proofs.OperatorGroups.{scales, signs}
use Rattle.utopist_parser.proofs.Lows.{factor_form, term_form, chain_form, expr_form, low_factor_form, low_factor, low_term, low_chain, low_expr, LowRules, RoundsOf, gate, begins_in, gated_rule}
use Rattle.utopist_parser.proofs.Productions.{choice_form, seen_choice, choice_rule}
use Rattle.utopist_parser.proofs.Factors.{zero_expr, zero_fits, factor_rule}

-- ---- a choice, or a chain

abbrev Choice : Type 0
Choice = Chain × (Cmp × (Chain × (Expression × Expression)))

abbrev from_expr : Expression → Choice ⊎ Chain
from_expr (choice a c d met other) = inl (a, (c, (d, (met, other))))
from_expr (plain c) = inr c

abbrev to_expr : Choice ⊎ Chain → Expression
to_expr (inl p) = choice p.0 p.1.0 p.1.1.0 p.1.1.1.0 p.1.1.1.1
to_expr (inr c) = plain c

expr_back : (z : Choice ⊎ Chain) → from_expr (to_expr z) ≡ z
expr_back (inl p) = refl
expr_back (inr c) = refl

-- neither a factor, nor a term, nor a chain begins with "if"
factor_first : (f : Factor) (rest : List Symbol) → meets (is_word words.If) (next (spell_factor f ++ rest)) ≡ false
factor_first (negated f) rest = refl
factor_first (literal n) rest = refl
factor_first (variable p) rest = refl
factor_first (round e) rest = refl
factor_first (call k place first more) rest = refl
factor_first (loop loops.Sum n first second each) rest = refl
factor_first (loop loops.Prod n first second each) rest = refl
factor_first (loop loops.Iter n first second each) rest = refl

abbrev not_if : List Symbol → Type 0
not_if l = meets (is_word words.If) (next l) ≡ false

term_first : (t : Term) (rest : List Symbol) → meets (is_word words.If) (next (spell_term t ++ rest)) ≡ false
term_first (one_factor f) rest = factor_first f rest
term_first (mul t s f) rest =
    subst not_if (sym (append_assoc (spell_term t) (mark (scale_mark s) ∷ spell_factor f) rest)) (term_first t (mark (scale_mark s) ∷ (spell_factor f ++ rest)))

chain_first : (c : Chain) (rest : List Symbol) → meets (is_word words.If) (next (spell_chain c ++ rest)) ≡ false
chain_first (one_term t) rest = term_first t rest
chain_first (add c s t) rest =
    subst not_if (sym (append_assoc (spell_chain c) (mark (sign_mark s) ∷ spell_term t) rest)) (chain_first c (mark (sign_mark s) ∷ (spell_term t ++ rest)))

abbrev zero_chain : Chain
zero_chain = one_term (one_factor (literal zero))

module _ (b : Breadth) where
  abbrev exprs_form : Form (Choice ⊎ Chain)
  exprs_form = either (gate b (choice_form b)) (chain_form b)

  choice_opens : (c : Symbol) → is_word words.If c ≡ true → (x : Choice) × (more : List Symbol) × ((choice_form b).spell x ≡ c ∷ more) × (M : ℕ) × (choice_form b).Fits x M
  choice_opens c e =
      let x : Choice = (zero_chain, (cmps.Less, (zero_chain, (zero_expr, zero_expr)))) in
      (x, _, ap (λ (d : Symbol). d ∷ drop 1 ((choice_form b).spell x)) (sym (fixed_is (kinds.Word words.If) tt c e)), 1, (tt, (zero_fits b, (tt, (zero_fits b, (tt, (zero_fits b, (tt, zero_fits b))))))))

  choice_none : (x : Choice) → (choice_form b).Fits x zero → ⊥
  choice_none x h = let n = chain_nest x.0 in let i = h.1.0.0 in omega (arith, n, i)

expr_spelled : (b : Breadth) (e : Expression) → (exprs_form b).spell (from_expr e) ≡ spell_expr e
expr_spelled b (choice a c d met other) = refl
expr_spelled b (plain c) = refl

expr_seen : (e : Expression) → see_either seen_choice seen_chain (from_expr e) ≡ seen_expr e
expr_seen (choice a c d met other) = refl
expr_seen (plain c) = refl

to_fits : (b : Breadth) (e : Expression) (M : ℕ) → (expr_form b).Fits e M → (exprs_form b).Fits (from_expr e) M
to_fits breadth.All (choice a c d met other) M h =
    (tt, (tt, ((omega (arith, h.0), tt), (tt, ((omega (arith, h.0), tt), (tt, ((omega (arith, h.0), tt), (tt, (omega (arith, h.0), tt)))))))))
to_fits breadth.Arithmetic (choice a c d met other) M h = absurd h.1
to_fits b (plain c) M h = h

from_fits : (b : Breadth) (e : Expression) (M : ℕ) → (exprs_form b).Fits (from_expr e) M → (expr_form b).Fits e M
from_fits breadth.All (choice a c d met other) M h =
    let x = h.1.1.0.0 in
    let y = h.1.1.1.1.0.0 in
    let z = h.1.1.1.1.1.1.0.0 in
    let w = h.1.1.1.1.1.1.1.1.0 in
    (omega (arith, x, y, z, w), tt)
from_fits breadth.Arithmetic (choice a c d met other) M h = absurd h.0
from_fits b (plain c) M h = h

to_stops : (b : Breadth) (e : Expression) (o : Option Symbol) → ExprStops e o → (exprs_form b).Stops (from_expr e) o
to_stops b (choice a c d met other) o s = s
to_stops b (plain c) o s = s

from_stops : (b : Breadth) (e : Expression) (o : Option Symbol) → (exprs_form b).Stops (from_expr e) o → ExprStops e o
from_stops b (choice a c d met other) o s = s
from_stops b (plain c) o s = s

abbrev expr_step : Breadth → StepOf Nested
expr_step b = choose_at (begins_in b (is_word words.If)) (deeper_at (choice_step (low_chain b) (low_expr b))) (chain_at b)

expr_rule : (b : Breadth) {m : Aspect} {room : ℕ} → RoundsOf m b → IfRoom room (LowRules m room b) → Rule m room (chain_form b) seen_chain (chain_at b) → Rule m room (expr_form b) seen_expr (expr_step b)
expr_rule b {m} {room} rounds low chains =
    let r = recast_rule {g = exprs_form b} spell_expr seen_expr to_expr from_expr expr_back (expr_spelled b) expr_seen
    (gated_rule b (choice_form b) seen_choice (choice_step (low_chain b) (low_expr b)) (choice_rule b) (choice_none b) (is_word words.If) (λ x rest. refl) (λ c rest s. chain_first c rest) (λ o. tt) (choice_opens b) rounds low chains) in
    record {
      keeps =
          reform_keeps (recast (exprs_form b) spell_expr from_expr) seen_expr (expr_form b).Fits (expr_form b).grows ExprStops (to_fits b) (from_fits b) (to_stops b) (from_stops b) r.enters m (expr_step b) room r.keeps;
      some = r.some;
      fits = fitting_by m (recast (exprs_form b) spell_expr from_expr) (expr_form b) r.some r.some room (from_fits b r.some room) r.fits;
      enters = λ o. tt;
    }

-- ---- all levels at a room

pub record LevelRules (m : Aspect) (room : ℕ) (b : Breadth) : Type 0 where
  pub factor : Rule m room (factor_form b) seen_factor (factor_at b)
  pub term : Rule m room (term_form b) seen_term (term_at b)
  pub chain : Rule m room (chain_form b) seen_chain (chain_at b)
  pub expr : Rule m room (expr_form b) seen_expr (expr_at b)

-- the same rule, for the same step
same_rule : {X V : Type 0} {m : Aspect} {room : ℕ} {g : Form X} {see : X → V} {f : StepOf V} (h : StepOf V) → ((M : ℕ) (ts : List Symbol) → f M ts ≡ h M ts) → Rule m room g see f → Rule m room g see h
same_rule {m = m} {room = room} {g = g} {see = see} {f = f} h same r = record { keeps = same_keeps g see f h same m room r.keeps; some = r.some; fits = r.fits; enters = r.enters }

-- what is known of operands, and of groups
module _ {S A O : Type 0} (b : Breadth) (g : Grouping S A O) (low : StepOf Nested) (nest : (x : S) → 1 ≤ (g.see_part x).1) (low_rule : (m : Aspect) (room : ℕ) → LowRules m room b → Rule m room (operand_form g) g.see_part low) where
  operand_none : AgainAt (operand_form g) g.see_part low zero
  operand_none = record { again = λ x h rest s. absurd (let n = nest x in let i = h.0 in omega (arith, n, i)) }

  operand_each : RoundsOf all_laws b → (M : ℕ) → AgainAt (operand_form g) g.see_part low M
  operand_each rounds zero = operand_none
  operand_each rounds (suc M) = (low_rule again_only (suc M) (rounds M)).keeps

  operand : (m : Aspect) (room : ℕ) → RoundsOf m b → IfRoom room (LowRules m room b) → Operand m g low room
  operand again_only zero rounds lows = operand_none
  operand again_only (suc room) rounds lows = (low_rule again_only (suc room) lows).keeps
  operand all_laws zero rounds lows = (operand_each rounds, λ r e. absurd (omega (arith, e)))
  operand all_laws (suc room) rounds lows = (operand_each rounds, λ r e. (low_rule all_laws (suc room) lows).keeps)

  group_rule : {m : Aspect} {room : ℕ} (first : StepOf Nested) → RoundsOf m b → IfRoom room (LowRules m room b) → Rule m room (part_form g) g.see_part first → Rule m room (group_form g) g.see (group_at g.find first low)
  group_rule {m} {room} first rounds lows r = record {
    keeps = group_keeps m g first low room r.keeps (operand m room rounds lows);
    some = g.one r.some;
    fits = fitting_by m (part_form g) (group_form g) r.some (g.one r.some) room (λ h. (subst (λ (v : Nested). v.1 ≤ suc room) (sym (g.see_one r.some)) h.0, g.allow_one r.some h.1)) r.fits;
    enters = λ o. tt;
  }

module _ (b : Breadth) (m : Aspect) (room : ℕ) (rounds : RoundsOf m b) (low : IfRoom room (LowRules m room b)) where
  factors : Rule m room (factor_form b) seen_factor (factor_at b)
  unfolding factor_at
  factors = same_rule {g = factor_form b} {f = factor_step b (low_factor b) (low_expr b)} (factor_at b) (λ M ts. refl) (factor_rule b rounds low)

  terms : Rule m room (term_form b) seen_term (term_at b)
  unfolding factor_at term_at
  terms =
      same_rule {g = term_form b} {f = group_at scale_of (factor_at b) (low_factor b)} (term_at b) (λ M ts. refl)
      (group_rule b (scales b) (low_factor b) factor_nest (λ m room l. l.factor) (factor_at b) rounds low factors)

  chains : Rule m room (chain_form b) seen_chain (chain_at b)
  unfolding term_at chain_at
  chains =
      same_rule {g = chain_form b} {f = group_at sign_of (term_at b) (low_term b)} (chain_at b) (λ M ts. refl)
      (group_rule b (signs b) (low_term b) term_nest (λ m room l. l.term) (term_at b) rounds low terms)

  exprs : Rule m room (expr_form b) seen_expr (expr_at b)
  unfolding chain_at expr_at
  exprs = same_rule {g = expr_form b} {f = expr_step b} (expr_at b) (λ M ts. refl) (expr_rule b rounds low chains)

  all_levels : LevelRules m room b
  all_levels = record { factor = factors; term = terms; chain = chains; expr = exprs }

-- ---- one level below

lower : (m : Aspect) (room : ℕ) (b : Breadth) → LevelRules m room b → LowRules m (suc room) b
unfolding factor_at term_at chain_at expr_at
lower m room b r = record {
  factor = record {
    keeps = below_keeps spell_factor seen_factor (AllowedFactor b) FactorStops factor_nest (low_factor b) (factor_at b) (λ ts. refl) (λ M ts. refl) m room r.factor.keeps;
    some = r.factor.some;
    fits = lower_fits m (factor_form b) (low_factor_form b) r.factor.some room (λ h. h) r.factor.fits;
    enters = λ o. tt;
  };
  term = record {
    keeps = below_keeps spell_term seen_term (AllowedTerm b) TermStops term_nest (low_term b) (term_at b) (λ ts. refl) (λ M ts. refl) m room r.term.keeps;
    some = r.term.some;
    fits = lower_fits m (term_form b) (below spell_term seen_term (AllowedTerm b) TermStops) r.term.some room (λ h. h) r.term.fits;
    enters = λ o. tt;
  };
  chain = record {
    keeps = below_keeps spell_chain seen_chain (AllowedChain b) ChainStops chain_nest (low_chain b) (chain_at b) (λ ts. refl) (λ M ts. refl) m room r.chain.keeps;
    some = r.chain.some;
    fits = lower_fits m (chain_form b) (below spell_chain seen_chain (AllowedChain b) ChainStops) r.chain.some room (λ h. h) r.chain.fits;
    enters = λ o. tt;
  };
  expr = record {
    keeps = below_keeps spell_expr seen_expr (AllowedExpr b) ExprStops expr_nest (low_expr b) (expr_at b) (λ ts. refl) (λ M ts. refl) m room r.expr.keeps;
    some = r.expr.some;
    fits = lower_fits m (expr_form b) (below spell_expr seen_expr (AllowedExpr b) ExprStops) r.expr.some room (λ h. h) r.expr.fits;
    enters = λ o. tt;
  };
} where
  lower_fits : {X : Type 0} (a : Aspect) (g d : Form X) (x : X) (M : ℕ) → (g.Fits x M → d.Fits x (suc M)) → Fitting a g x M → Fitting a d x (suc M)
  lower_fits again_only g d x M h i = tt
  lower_fits all_laws g d x M h i = h i

-- ---- all rooms

agains : (room : ℕ) (b : Breadth) → LevelRules again_only room b
agains zero b = all_levels b again_only zero tt tt
agains (suc room) b = all_levels b again_only (suc room) tt (lower again_only room b (agains room b))

rounds : (b : Breadth) → RoundsOf all_laws b
rounds b room = lower again_only room b (agains room b)

levels : (room : ℕ) (b : Breadth) → LevelRules all_laws room b
levels zero b = all_levels b all_laws zero (rounds b) tt
levels (suc room) b = all_levels b all_laws (suc room) (rounds b) (lower all_laws room b (levels room b))

-- the rules of an aspect at a room
pub level_rules : (m : Aspect) (room : ℕ) (b : Breadth) → LevelRules m room b
level_rules again_only room b = agains room b
level_rules all_laws room b = levels room b
