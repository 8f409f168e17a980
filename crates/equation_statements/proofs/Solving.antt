-- The statements of an equation.
use Rattle.std.proofs.Common.{◌≡◌, ◌≢◌, ℕ, ◌+◌, ◌<◌, ◌≤◌, ⊎_elim, Bool, true, false, cond, List, [], ◌∷◌, ◌++◌, length, get_or, take, Option, Some, None, Result, Ok, Err, refl, sym, ap, ◌∙◌, subst, arith}
use Rattle.std.specs.Prelude.{All, map, not, ◌==◌, if◌then◌else◌, OnOk, IfOk}
use Rattle.std.specs.List.{filter}
use Rattle.std.proofs.lemmas.Bool.{cases_eq, eqb-true}
use Rattle.std.proofs.lemmas.List.Elements.{All-map, All-filter, filter_passes, filter-append}
use Rattle.std.proofs.lemmas.List.Filters.{length-filter_both}
use Rattle.std.proofs.lemmas.List.{length-map, map-append, append-nil}
use Rattle.priz_base.proofs.More.{take_at}
use Rattle.body_lang.specs.BodyTree.{BodyTree}
use Rattle.statement_set.specs.declared.statement.Statement.{Statement}
use Rattle.body_lang.specs.Equations.{Sides, IsArithmetic, AreArithmetic}
use Rattle.body_lang.specs.ExactValue.{NumbersAreFractions}
use Rattle.body_lang.specs.Inverse.{inverse, solved}
use Rattle.body_lang.specs.Occurrences.{occurrences, occurrences_in}
use Rattle.body_lang.specs.Reads.{IsClosed}
use Rattle.body_lang.proofs.ClosedBodies.{passes}
use Rattle.body_lang.proofs.Inverses.{inverse_is_arithmetic, inverse_without, inverse_keeps, inverse_solves}
use Rattle.statement_set.specs.Problem.{IsEquationOver, IsStatementOver}
use Rattle.equation_statements.specs.SolvingStatements.{variables_on, firsts, stand_once, others, renumbered, solving_statement, solving_statements}
use Rattle.equation_statements.specs.Laws.{IsSolvingStatement}
use Rattle.equation_statements.specs.steps.Places.{statement_for}
use Rattle.equation_statements.proofs.Times.{is_other, is_other_from, times_kept, few}
use Rattle.equation_statements.proofs.Firsts.{firsts_keep, firsts_once, firsts_all, filter_firsts}
use Rattle.equation_statements.proofs.Places.{place_in, place_below}
use Rattle.equation_statements.proofs.Occurring.{occurrences_on, all_below, occurring_below, renumbered_closed, arithmetic_closed}

abbrev pub stands_once : Sides → ℕ → Bool
stands_once e v = occurrences_in v e == 1

abbrev answer_if : Sides → ℕ → Bool → Option BodyTree
answer_if e v b = if b then Some (solved v e) else None

-- a variable that stands in the equation once is solved for
pub is_solved : (e : Sides) (v : ℕ) → stands_once e v ≡ true → inverse v e ≡ Some (solved v e)
is_solved e v once = ap (answer_if e v) once

-- an answer shows that the variable stands there once
pub solved_once : (e : Sides) (v : ℕ) (t : BodyTree) → inverse v e ≡ Some t → (stands_once e v ≡ true) × (solved v e ≡ t)
solved_once e v t is = by (stands_once e v) refl
  where
    by : (b : Bool) → stands_once e v ≡ b → (stands_once e v ≡ true) × (solved v e ≡ t)
    by true once = let same : answer_if e v true ≡ Some t = sym (ap (answer_if e v) once) ∙ is in (once, cc)
    by false once = let same : answer_if e v false ≡ Some t = sym (ap (answer_if e v) once) ∙ is in absurd (cc)

pub unsolved : (e : Sides) (v : ℕ) → inverse v e ≡ None → stands_once e v ≡ false
unsolved e v is = by (stands_once e v) refl
  where
    by : (b : Bool) → stands_once e v ≡ b → stands_once e v ≡ false
    by true once = let same : answer_if e v true ≡ None = sym (ap (answer_if e v) once) ∙ is in absurd (cc)
    by false once = once

-- those that stand in the equation once are met once where each is met first
pub once_of_firsts : (e : Sides) → AreArithmetic e → filter (stands_once e) (firsts (variables_on e)) ≡ stand_once e
once_of_firsts e h =
    filter_firsts (stands_once e) (variables_on e) (λ v once.
    let one = eqb-true (occurrences_in v e) 1 once in
    omega (arith, one, occurrences_on v e h))

length-filter_le : (p : ℕ → Bool) (vs : List ℕ) → length (filter p vs) ≤ length vs
length-filter_le p vs = omega (arith, length-filter_both p (λ v. not (p v)) (λ v. refl) vs)

-- there are no more than 1,024
pub few_statements : (e : Sides) → IsEquationOver 1024 e → length (solving_statements e) ≤ 1024
few_statements e h =
    let all = firsts_all (λ v. v < 1024) (variables_on e) (all_below 1024 e h) in
    let some = length-filter_le (stands_once e) (firsts (variables_on e)) in
    let fit = few 1024 (firsts (variables_on e)) all (firsts_once (variables_on e)) in
    let same = ap length (once_of_firsts e h.arithmetic) in
    omega (arith, some, fit, same, length-map (stand_once e) (solving_statement e))

module _ (e : Sides) (v : ℕ) (h : AreArithmetic e) (once : stands_once e v ≡ true) where
  inverse_is : inverse v e ≡ Some (solved v e)
  inverse_is = is_solved e v once

  pub solved_arithmetic : IsArithmetic (solved v e)
  solved_arithmetic = inverse_is_arithmetic e v (solved v e) h inverse_is

  pub solved_without : occurrences v (solved v e) ≡ 0
  solved_without = inverse_without e v (solved v e) h inverse_is

  -- what stands in the answer is another variable, and stands in the equation
  stands_there : (w : ℕ) → 1 ≤ occurrences w (solved v e) → (w ≢ v) × (1 ≤ occurrences_in w e)
  stands_there w some =
      ⊎_elim
      (λ same. let none = ap (λ u. occurrences u (solved v e)) same in absurd (omega (arith, some, none, solved_without)))
      (λ apart. (apart, omega (arith, some, inverse_keeps e v w (solved v e) h inverse_is apart)))
      (cases_eq w v)

  pub solved_closed : (n : ℕ) → IsEquationOver n e → IsClosed n [] 0 (solved v e)
  solved_closed n over =
      arithmetic_closed n (solved v e) solved_arithmetic (λ w some. occurring_below n e over w (stands_there w some).1)

  -- it has a place among the others
  place_among : (w : ℕ) → 1 ≤ occurrences w (solved v e) → place_in w (others v e) < length (others v e)
  place_among w some =
      let there = stands_there w some in
      let first = firsts_keep (variables_on e) w (omega (arith, there.1, occurrences_on w e h)) in
      place_below w (others v e) (omega (arith, first, times_kept (is_other v) w (is_other_from v w there.0) (firsts (variables_on e))))

  pub statement_over : (n : ℕ) → IsEquationOver n e → IsStatementOver n (solving_statement e v)
  statement_over n over = record {
    inputs = All-filter (is_other v) (λ w. w < n) (firsts (variables_on e)) (firsts_all (λ w. w < n) (variables_on e) (all_below n e over));
    subs = λ k d lt. absurd (omega arith);
    output = occurring_below n e over v (let one = eqb-true (occurrences_in v e) 1 once in omega (arith, one));
    body = passes (length (others v e)) [] 0 (renumbered (λ w. place_in w (others v e)) (solved v e)) (renumbered_closed (length (others v e)) (λ w. place_in w (others v e)) (solved v e) solved_arithmetic place_among);
  }

  pub is_solving : NumbersAreFractions e → IsSolvingStatement e (solving_statement e v)
  is_solving fractions = record {
    inverse_is = inverse_is;
    body = refl;
    inputs = refl;
    subs = refl;
    value = inverse_solves e v (solved v e) h fractions inverse_is;
  }

-- what holds of each variable's statement holds of all
all_statements :
    (e : Sides) (P : Statement → Type 0) → ((v : ℕ) → stands_once e v ≡ true → P (solving_statement e v))
    → All P (solving_statements e)
all_statements e P each =
    All-map P (solving_statement e) (stand_once e) (λ k d lt. each _ (filter_passes (stands_once e) (variables_on e) k d lt))

pub statements_over : (e : Sides) (n : ℕ) → IsEquationOver n e → All (IsStatementOver n) (solving_statements e)
statements_over e n over =
    all_statements e (IsStatementOver n) (λ v once. statement_over e v over.arithmetic once n over)

pub all_solving : (e : Sides) → AreArithmetic e → NumbersAreFractions e → All (IsSolvingStatement e) (solving_statements e)
all_solving e h fractions =
    all_statements e (IsSolvingStatement e) (λ v once. is_solving e v h once fractions)

-- what follows from a fact at Ok holds there
pub on_ok : {X E P Q : Type 0} → (r : Result X E) → OnOk r P → (P → Q) → OnOk r Q
on_ok (Ok x) h f = f h
on_ok (Err e) h f = tt

-- an answer is closed arithmetic
module _ (e : Sides) (over : IsEquationOver 1024 e) (v : ℕ) (t : BodyTree) (is : inverse v e ≡ Some t) where
  pub answer_arithmetic : IsArithmetic t
  answer_arithmetic = inverse_is_arithmetic e v t over.arithmetic is

  pub answer_closed : IsClosed 1024 [] 0 t
  answer_closed =
      let s = solved_once e v t is in
      subst (IsClosed 1024 [] 0) s.1 (solved_closed e v over.arithmetic s.0 1024 over)

-- the statements of the first variables, and of one more
module _ (e : Sides) (vs : List ℕ) (i v : ℕ) (lt : i < length vs) (at : v ≡ get_or vs i v) where
  abbrev met : List ℕ → List Statement
  met us = map (solving_statement e) (filter (stands_once e) us)

  more : (b : Bool) → stands_once e v ≡ b → met (take (i + 1) vs) ≡ met (take i vs) ++ cond b (solving_statement e v ∷ []) []
  more b once =
      ap met (take_at vs i v lt at)
      ∙ ap (map (solving_statement e)) (filter-append (stands_once e) (take i vs) (v ∷ []))
      ∙ map-append (solving_statement e) (filter (stands_once e) (take i vs)) (filter (stands_once e) (v ∷ []))
      ∙ ap (λ us. met (take i vs) ++ map (solving_statement e) us) (ap (λ t. cond t (v ∷ []) []) once)
      ∙ ap (λ ss. met (take i vs) ++ ss) (mapped b)
    where
      mapped : (b : Bool) → map (solving_statement e) (cond b (v ∷ []) []) ≡ cond b (solving_statement e v ∷ []) []
      mapped true = refl
      mapped false = refl

  pub next_solved :
      (t : BodyTree) (old new : List Statement) → inverse v e ≡ Some t
      → old ≡ map (solving_statement e) (filter (stands_once e) (take i vs))
      → new ≡ old ++ statement_for (firsts (variables_on e)) v t ∷ []
      → new ≡ map (solving_statement e) (filter (stands_once e) (take (i + 1) vs))
  next_solved t old new is so_far one =
      let s = solved_once e v t is in
      one
      ∙ ap (λ ss. ss ++ statement_for (firsts (variables_on e)) v t ∷ []) so_far
      ∙ ap (λ b. met (take i vs) ++ statement_for (firsts (variables_on e)) v b ∷ []) (sym s.1)
      ∙ sym (more true s.0)

  pub next_unsolved :
      (old : List Statement) → inverse v e ≡ None
      → old ≡ map (solving_statement e) (filter (stands_once e) (take i vs))
      → old ≡ map (solving_statement e) (filter (stands_once e) (take (i + 1) vs))
  next_unsolved old is so_far = so_far ∙ sym (more false (unsolved e v is) ∙ append-nil (met (take i vs)))

pub list_over :
    {E : Type 0} → (e : Sides) (n : ℕ) → IsEquationOver n e
    → (r : Result (List Statement) E) → IfOk r (λ ss. ss ≡ solving_statements e)
    → IfOk r (λ ss. All (IsStatementOver n) ss)
list_over e n over (Ok ss) is = subst (λ (ts : List Statement). All (IsStatementOver n) ts) (sym is) (statements_over e n over)
list_over e n over (Err f) is = tt

pub first_below : (e : Sides) → IsEquationOver 1024 e → (vs : List ℕ) → vs ≡ firsts (variables_on e) → All (λ v. v < 1024) vs
first_below e over vs is =
    subst (λ (us : List ℕ). All (λ v. v < 1024) us) (sym is) (firsts_all (λ v. v < 1024) (variables_on e) (all_below 1024 e over))
