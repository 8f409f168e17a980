-- The rule of a factor: it is one of its forms.
use Rattle.std.proofs.Common.{◌≡◌, ℕ, zero, suc, ◌≤◌, max, Bool, true, false, List, [], ◌∷◌, ◌++◌, map, drop, Option, Some, refl, sym, ap, subst, ◌∙◌, append_assoc, arith, inl, inr}
use Rattle.std.specs.Prelude.{pos, negsuc, ◌⊎◌, ◌||◌}
use Rattle.std.specs.List.{flat_map}
use Rattle.priz_base.specs.declared.place.Place.{Place}
use Rattle.body_lang.specs.declared.loop_kind.LoopKind.{LoopKind}
use Rattle.body_lang.specs.declared.loop_kind.LoopKind.TheVariants as loops
use Rattle.utopist_lexer.specs.declared.word.Word.TheVariants as words
use Rattle.utopist_lexer.specs.declared.mark.Mark.TheVariants as marks
use Rattle.utopist_lexer.specs.declared.token.Kind.TheVariants as kinds
use Rattle.utopist_syntax.specs.Named.{Named}
use Rattle.utopist_syntax.specs.ExprTree as tree
use Rattle.utopist_syntax.specs.ExprTree.{ExprTrees}
use Rattle.utopist_parser.specs.declared.breadth.Breadth.{Breadth}
use Rattle.utopist_parser.specs.declared.breadth.Breadth.TheVariants as breadth
use Rattle.token_forms.specs.Symbols.{Symbol, name, sub, fixed, mark}
use Rattle.token_forms.specs.steps.Steps.{StepOf, next, meets, choose_at}
use Rattle.token_forms.specs.steps.Single.{is_kind, is_word, is_mark, is_sub}
use Rattle.token_forms.specs.Lists.{OneOrMore}
use Rattle.utopist_parser.specs.Written.{WrittenPath, Expression, plain, one_term, one_factor, Factor, negated, literal, variable, round, call, loop, Further, no_more, and_then}
use Rattle.token_forms.specs.Lists.{behind}
use Rattle.utopist_parser.specs.ExprSymbols.{loop_word, spell_expr, spell_factor, spell_exprs}
use Rattle.token_forms.specs.Lists.{all_of}
use Rattle.utopist_parser.specs.ExprTree.{see_expr, see_exprs}
use Rattle.utopist_parser.specs.Nesting.{nest_expr, nest_exprs}
use Rattle.utopist_parser.specs.steps.ReadingExpr.{Nested, trees_in, most, literal_step, variable_step, negated_step, round_step, call_step, loop_step, factor_step}
use Rattle.token_forms.proofs.StepLaws.{Form, Aspect}
use Rattle.token_forms.proofs.Recast.{recast, reform_keeps}
use Rattle.token_forms.proofs.Choice.{either, see_either}
use Rattle.token_forms.proofs.Repeat.{FitsAll}
use Rattle.utopist_parser.proofs.Levels.{IfRoom}
use Rattle.token_forms.proofs.Singles.{fixed_is, name_form, number_form}
use Rattle.token_forms.proofs.Rules.{Rule, fitting_by, next_form, number_rule, map_rule, either_rule, recast_rule}
use Rattle.utopist_parser.proofs.PathRules.{path_form, path_rule}
use Rattle.utopist_parser.proofs.ExprFacts.{seen_factor, seen_expr, factor_nest, expr_nest, InBreadth, FactorStops}
use Rattle.utopist_parser.proofs.Lows.{factor_form, low_expr_form, low_factor, low_expr, LowRules, RoundsOf, gate, deep_rule, gated_rule}
use Rattle.utopist_parser.proofs.Productions.{kind_begins, negated_form, round_form, call_form, loop_form, seen_negated, seen_round, seen_call, seen_loop, negated_rule, round_rule, call_rule, loop_rule}

-- ---- arguments as a list

abbrev to_list : Further → List Expression
to_list no_more = []
to_list (and_then e more) = e ∷ to_list more

abbrev of_list : List Expression → Further
of_list [] = no_more
of_list (e ∷ es) = and_then e (of_list es)

list_back : (es : List Expression) → to_list (of_list es) ≡ es
list_back [] = refl
list_back (e ∷ es) = ap (λ l. e ∷ l) (list_back es)

list_spelled : (es : Further) → flat_map (behind marks.Comma spell_expr) (to_list es) ≡ spell_exprs es
list_spelled no_more = refl
list_spelled (and_then e more) = ap (λ l. mark marks.Comma ∷ (spell_expr e ++ l)) (list_spelled more)

list_trees : (es : Further) → trees_in (map seen_expr (to_list es)) ≡ see_exprs es
list_trees no_more = refl
list_trees (and_then e more) = ap (λ (ts : ExprTrees). tree.more (see_expr e) ts) (list_trees more)

list_most : (es : Further) → most (map seen_expr (to_list es)) ≡ nest_exprs es
list_most no_more = refl
list_most (and_then e more) = ap (λ (n : ℕ). max (nest_expr e) n) (list_most more)

-- ---- a factor as one of its forms

abbrev Call : Type 0
Call = ((ℕ × ℕ) × Place) × (OneOrMore Expression × Unit {0})

abbrev Loop : Type 0
Loop = LoopKind × (Named × (Expression × (Expression × (Expression × Unit {0}))))

abbrev Leaf : Type 0
Leaf = WrittenPath ⊎ ℕ

abbrev Kinds : Type 0
Kinds = Factor ⊎ ((Expression × Unit {0}) ⊎ (Call ⊎ (Loop ⊎ Leaf)))

abbrev from_factor : Factor → Kinds
from_factor (negated f) = inl f
from_factor (round e) = inr (inl (e, tt))
from_factor (call k place first more) = inr (inr (inl ((k, place), (record { first = first; more = to_list more }, tt))))
from_factor (loop kind n first second each) = inr (inr (inr (inl (kind, (n, (first, (second, (each, tt))))))))
from_factor (variable p) = inr (inr (inr (inr (inl p))))
from_factor (literal n) = inr (inr (inr (inr (inr n))))

abbrev to_factor : Kinds → Factor
to_factor (inl f) = negated f
to_factor (inr (inl p)) = round p.0
to_factor (inr (inr (inl p))) = call p.0.0 p.0.1 p.1.0.first (of_list p.1.0.more)
to_factor (inr (inr (inr (inl p)))) = loop p.0 p.1.0 p.1.1.0 p.1.1.1.0 p.1.1.1.1.0
to_factor (inr (inr (inr (inr (inl p))))) = variable p
to_factor (inr (inr (inr (inr (inr n))))) = literal n

factor_back : (z : Kinds) → from_factor (to_factor z) ≡ z
factor_back (inl f) = refl
factor_back (inr (inl p)) = refl
factor_back (inr (inr (inl p))) = ap (λ (l : List Expression). call_with l) (list_back p.1.0.more) where
  call_with : List Expression → Kinds
  call_with l = inr (inr (inl (p.0, (record { first = p.1.0.first; more = l }, tt))))
factor_back (inr (inr (inr (inl p)))) = refl
factor_back (inr (inr (inr (inr (inl p))))) = refl
factor_back (inr (inr (inr (inr (inr n))))) = refl

-- ---- leaves

abbrev seen_path : WrittenPath → Nested
seen_path p = (tree.path (all_of p), 1)

abbrev seen_number : ℕ → Nested
seen_number n = (tree.num (pos n), 1)

abbrev leaf_form : Form Leaf
leaf_form = either path_form number_form

abbrev leaf_at : StepOf Nested
leaf_at = choose_at (is_kind kinds.Name) variable_step literal_step

leaf_rule : {m : Aspect} {room : ℕ} → Rule m room leaf_form (see_either seen_path seen_number) leaf_at
leaf_rule = either_rule (is_kind kinds.Name) (λ p rest. refl) (λ n rest s. refl) (map_rule (λ p. (tree.path p.parts, 1)) path_rule) (map_rule (λ n. (tree.num n, 1)) number_rule)

-- ---- the forms one after another

abbrev begins_loop_word : Symbol → Bool
begins_loop_word c = is_word words.Sum c || (is_word words.Prod c || is_word words.Iter c)

loop_starts : (k : LoopKind) (rest : List Symbol) → meets begins_loop_word (Some (fixed (kinds.Word (loop_word k)))) ≡ true
loop_starts loops.Sum rest = refl
loop_starts loops.Prod rest = refl
loop_starts loops.Iter rest = refl

not_loop : (z : Leaf) (rest : List Symbol) → meets begins_loop_word (next (leaf_form.spell z ++ rest)) ≡ false
not_loop (inl p) rest = refl
not_loop (inr n) rest = refl

-- an expression of one number, and its symbol
abbrev pub zero_expr : Expression
zero_expr = plain (one_term (one_factor (literal zero)))

in_breadth : (b : Breadth) (T : Type 0) → T → InBreadth b T
in_breadth breadth.All T h = tt
in_breadth breadth.Arithmetic T h = h

pub zero_fits : (b : Breadth) → (low_expr_form b).Fits zero_expr 1
zero_fits b = (omega arith, in_breadth b (Unit {0}) tt)

module _ (b : Breadth) where
  abbrev loops_form : Form (Loop ⊎ Leaf)
  loops_form = either (gate b (loop_form b)) leaf_form

  abbrev calls_form : Form (Call ⊎ (Loop ⊎ Leaf))
  calls_form = either (gate b (call_form b)) loops_form

  abbrev rounds_form : Form ((Expression × Unit {0}) ⊎ (Call ⊎ (Loop ⊎ Leaf)))
  rounds_form = either (round_form b) calls_form

  abbrev kinds_form : Form Kinds
  kinds_form = either (negated_form b) rounds_form

  loop_opens : (c : Symbol) → begins_loop_word c ≡ true → (x : Loop) × (more : List Symbol) × ((loop_form b).spell x ≡ c ∷ more) × (M : ℕ) × (loop_form b).Fits x M
  loop_opens c e =
      let k = kind_begins c e in
      let x : Loop = (k.0, (record { text = []; place = record { at = 0; line = 1; col = 1 } }, (zero_expr, (zero_expr, (zero_expr, tt))))) in
      (x, _, ap (λ (d : Symbol). d ∷ drop 1 ((loop_form b).spell x)) k.1, 1, (tt, (tt, (tt, (tt, (zero_fits b, (tt, (zero_fits b, (tt, (zero_fits b, (tt, tt)))))))))))

  call_opens : (c : Symbol) → is_sub c ≡ true → (x : Call) × (more : List Symbol) × ((call_form b).spell x ≡ c ∷ more) × (M : ℕ) × (call_form b).Fits x M
  call_opens (name n) e = absurd cc
  call_opens (sub (pos k) (pos j) p) e = ((((k, j), p), (record { first = zero_expr; more = [] }, tt)), _, refl, 1, (tt, (tt, ((zero_fits b, tt), (tt, tt)))))
  call_opens (sub (pos k) (negsuc j) p) e = absurd cc
  call_opens (sub (negsuc k) j p) e = absurd cc
  call_opens (fixed k) e = absurd cc

  round_opens : (c : Symbol) → is_mark marks.OpenRound c ≡ true → (x : Expression × Unit {0}) × (more : List Symbol) × ((round_form b).spell x ≡ c ∷ more) × (M : ℕ) × (round_form b).Fits x M
  round_opens c e = ((zero_expr, tt), _, ap (λ (d : Symbol). d ∷ drop 1 ((round_form b).spell (zero_expr, tt))) (sym (fixed_is (kinds.Mark marks.OpenRound) tt c e)), 1, (tt, (zero_fits b, (tt, tt))))

  negated_opens : (c : Symbol) → is_mark marks.Minus c ≡ true → (x : Factor) × (more : List Symbol) × ((negated_form b).spell x ≡ c ∷ more) × (M : ℕ) × (negated_form b).Fits x M
  negated_opens c e = (literal zero, _, ap (λ (d : Symbol). d ∷ drop 1 ((negated_form b).spell (literal zero))) (sym (fixed_is (kinds.Mark marks.Minus) tt c e)), 1, (tt, (omega arith, in_breadth b (Unit {0}) tt)))

  -- nothing of these fits where there is no room
  loop_none : (x : Loop) → (loop_form b).Fits x zero → ⊥
  loop_none x h = let n = expr_nest x.1.1.0 in let i = h.1.1.1.1.0.0 in omega (arith, n, i)

  call_none : (x : Call) → (call_form b).Fits x zero → ⊥
  call_none x h = let n = expr_nest x.1.0.first in let i = h.1.1.0.0.0 in omega (arith, n, i)

  round_none : (x : Expression × Unit {0}) → (round_form b).Fits x zero → ⊥
  round_none x h = let n = expr_nest x.0 in let i = h.1.0.0 in omega (arith, n, i)

  negated_none : (x : Factor) → (negated_form b).Fits x zero → ⊥
  negated_none x h = let n = factor_nest x in let i = h.1.0 in omega (arith, n, i)

  not_call : (z : Loop ⊎ Leaf) (rest : List Symbol) → meets is_sub (next (loops_form.spell z ++ rest)) ≡ false
  not_call (inl p) rest = refl
  not_call (inr (inl p)) rest = refl
  not_call (inr (inr n)) rest = refl

  not_round : (z : Call ⊎ (Loop ⊎ Leaf)) (rest : List Symbol) → meets (is_mark marks.OpenRound) (next (calls_form.spell z ++ rest)) ≡ false
  not_round (inl p) rest = refl
  not_round (inr (inl p)) rest = refl
  not_round (inr (inr (inl p))) rest = refl
  not_round (inr (inr (inr n))) rest = refl

  not_negated : (z : (Expression × Unit {0}) ⊎ (Call ⊎ (Loop ⊎ Leaf))) (rest : List Symbol) → meets (is_mark marks.Minus) (next (rounds_form.spell z ++ rest)) ≡ false
  not_negated (inl p) rest = refl
  not_negated (inr (inl p)) rest = refl
  not_negated (inr (inr (inl p))) rest = refl
  not_negated (inr (inr (inr (inl p)))) rest = refl
  not_negated (inr (inr (inr (inr n)))) rest = refl

  -- what one of the forms means
  abbrev seen_kinds : Kinds → Nested
  seen_kinds = see_either seen_negated (see_either seen_round (see_either seen_call (see_either seen_loop (see_either seen_path seen_number))))

  kinds_rule : {m : Aspect} {room : ℕ} → RoundsOf m b → IfRoom room (LowRules m room b) → Rule m room kinds_form seen_kinds (factor_step b (low_factor b) (low_expr b))
  kinds_rule rounds low =
      deep_rule b (negated_form b) seen_negated (negated_step (low_factor b)) (negated_rule b) negated_none (is_mark marks.Minus) (λ x rest. refl) (λ z rest s. not_negated z rest) (λ o. tt) negated_opens rounds low
      (deep_rule b (round_form b) seen_round (round_step (low_expr b)) (round_rule b) round_none (is_mark marks.OpenRound) (λ x rest. refl) (λ z rest s. not_round z rest) (λ o. tt) round_opens rounds low
      (gated_rule b (call_form b) seen_call (call_step (low_expr b)) (call_rule b) call_none is_sub (λ x rest. refl) (λ z rest s. not_call z rest) (λ o. tt) call_opens rounds low
      (gated_rule b (loop_form b) seen_loop (loop_step (low_expr b)) (loop_rule b) loop_none begins_loop_word (λ x rest. loop_starts x.0 rest) (λ z rest s. not_loop z rest) (λ o. tt) loop_opens rounds low leaf_rule)))

-- ---- what is spelled, and what it means

factor_spelled : (b : Breadth) (f : Factor) → (kinds_form b).spell (from_factor f) ≡ spell_factor f
factor_spelled b (negated f) = refl
factor_spelled b (round e) = refl
factor_spelled b (call k place first more) =
    ap (λ (l : List Symbol). sub (pos k.0) (pos k.1) place ∷ mark marks.OpenRound ∷ l)
    (append_assoc (spell_expr first) (flat_map (behind marks.Comma spell_expr) (to_list more)) (mark marks.CloseRound ∷ [])
    ∙ ap (λ (l : List Symbol). spell_expr first ++ (l ++ (mark marks.CloseRound ∷ []))) (list_spelled more))
factor_spelled b (loop kind n first second each) = refl
factor_spelled b (variable p) = refl
factor_spelled b (literal n) = refl

factor_seen : (b : Breadth) (f : Factor) → seen_kinds b (from_factor f) ≡ seen_factor f
factor_seen b (negated f) = refl
factor_seen b (round e) = refl
factor_seen b (call k place first more) = λ i. (tree.call (pos k.0) (pos k.1) place (tree.more (see_expr first) (list_trees more i)), suc (max (nest_expr first) (list_most more i)))
factor_seen b (loop kind n first second each) = refl
factor_seen b (variable p) = refl
factor_seen b (literal n) = refl

-- ---- what fits

names_fit : (ns : List Named) (M : ℕ) → FitsAll (next_form marks.Dot name_form) (is_mark marks.Dot) (λ o. Unit {0}) ns M
names_fit [] M = tt
names_fit (n ∷ ns) M = ((tt, tt), names_fit ns M)

-- a path fits at any room
pub path_fits : (p : WrittenPath) (M : ℕ) → path_form.Fits p M
path_fits p M = (tt, names_fit p.more M)

module _ (M : ℕ) where
  list_fits : (es : Further) → nest_exprs es ≤ M → FitsAll (next_form marks.Comma (low_expr_form breadth.All)) (is_mark marks.Comma) (λ o. Unit {0}) (to_list es) M
  list_fits no_more h = tt
  list_fits (and_then e more) h = ((tt, (omega (arith, h), tt)), list_fits more (omega (arith, h)))

  fits_list : (es : List Expression) → FitsAll (next_form marks.Comma (low_expr_form breadth.All)) (is_mark marks.Comma) (λ o. Unit {0}) es M → most (map seen_expr es) ≤ M
  fits_list [] h = omega arith
  fits_list (e ∷ es) h = let a = h.0.1.0 in let r = fits_list es h.1 in omega (arith, a, r)

to_fits : (b : Breadth) (f : Factor) (M : ℕ) → (factor_form b).Fits f M → (kinds_form b).Fits (from_factor f) M
to_fits b (negated f) M h = (tt, (omega (arith, h.0), h.1))
to_fits b (round e) M h = (tt, ((omega (arith, h.0), h.1), (tt, tt)))
to_fits breadth.All (call k place first more) M h = (tt, (tt, (tt, (((omega (arith, h.0), tt), list_fits M more (omega (arith, h.0))), (tt, tt)))))
to_fits breadth.Arithmetic (call k place first more) M h = absurd h.1
to_fits breadth.All (loop kind n first second each) M h =
    (tt, (tt, (tt, (tt, (tt, ((omega (arith, h.0), tt), (tt, ((omega (arith, h.0), tt), (tt, ((omega (arith, h.0), tt), (tt, tt)))))))))))
to_fits breadth.Arithmetic (loop kind n first second each) M h = absurd h.1
to_fits b (variable p) M h = path_fits p M
to_fits b (literal n) M h = tt

from_fits : (b : Breadth) (f : Factor) (M : ℕ) → (kinds_form b).Fits (from_factor f) M → (factor_form b).Fits f M
from_fits b (negated f) M h = let n = h.1.0 in (omega (arith, n), h.1.1)
from_fits b (round e) M h = let n = h.1.0.0 in (omega (arith, n), h.1.0.1)
from_fits breadth.All (call k place first more) M h =
    let n = h.1.1.1.0.0.0 in
    let r = fits_list M (to_list more) h.1.1.1.0.1 in
    let s = list_most more in
    let t : nest_exprs more ≤ M = subst (λ (q : ℕ). q ≤ M) s r in
    (omega (arith, n, t), tt)
from_fits breadth.Arithmetic (call k place first more) M h = absurd h.0
from_fits breadth.All (loop kind n first second each) M h =
    let x = h.1.1.1.1.1.0.0 in
    let y = h.1.1.1.1.1.1.1.0.0 in
    let z = h.1.1.1.1.1.1.1.1.1.0.0 in
    (omega (arith, x, y, z), tt)
from_fits breadth.Arithmetic (loop kind n first second each) M h = absurd h.0
from_fits b (variable p) M h = (omega arith, in_breadth b (Unit {0}) tt)
from_fits b (literal n) M h = (omega arith, in_breadth b (Unit {0}) tt)

-- ---- what stops

to_stops : (b : Breadth) (f : Factor) (o : Option Symbol) → FactorStops f o → (kinds_form b).Stops (from_factor f) o
to_stops b (negated f) o s = s
to_stops b (round e) o s = tt
to_stops b (call k place first more) o s = tt
to_stops b (loop kind n first second each) o s = tt
to_stops b (variable p) o s = s
to_stops b (literal n) o s = tt

from_stops : (b : Breadth) (f : Factor) (o : Option Symbol) → (kinds_form b).Stops (from_factor f) o → FactorStops f o
from_stops b (negated f) o s = s
from_stops b (round e) o s = tt
from_stops b (call k place first more) o s = tt
from_stops b (loop kind n first second each) o s = tt
from_stops b (variable p) o s = s
from_stops b (literal n) o s = tt

-- ---- the rule

pub factor_rule : (b : Breadth) {m : Aspect} {room : ℕ} → RoundsOf m b → IfRoom room (LowRules m room b) → Rule m room (factor_form b) seen_factor (factor_step b (low_factor b) (low_expr b))
factor_rule b {m} {room} rounds low =
    let r = recast_rule {g = kinds_form b} spell_factor seen_factor to_factor from_factor factor_back (factor_spelled b) (factor_seen b) (kinds_rule b rounds low) in
    record {
      keeps =
          reform_keeps (recast (kinds_form b) spell_factor from_factor) seen_factor (factor_form b).Fits (factor_form b).grows FactorStops (to_fits b) (from_fits b) (to_stops b) (from_stops b) r.enters m (factor_step b (low_factor b) (low_expr b)) room r.keeps;
      some = r.some;
      fits = fitting_by m (recast (kinds_form b) spell_factor from_factor) (factor_form b) r.some r.some room (from_fits b r.some room) r.fits;
      enters = λ o. tt;
    }
