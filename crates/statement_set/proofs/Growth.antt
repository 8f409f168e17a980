-- A problem stays well formed where something is added.
use Rattle.std.proofs.Common.{◌≡◌, ◌≢◌, ℕ, ◌<◌, ◌≤◌, List, [], ◌∷◌, ◌++◌, length, get_or, arith, length-append, ap, sym, ◌∙◌, subst}
use Rattle.std.specs.Prelude.{Contains, map}
use Rattle.std.specs.List.{AllPairs}
use Rattle.std.proofs.lemmas.List.{map-append}
use Rattle.std.proofs.lemmas.List.Elements.{All-weaker, All-push}
use Rattle.std.proofs.lemmas.List.Sums.{get_or-le-sum_by}
use Rattle.statement_set.specs.declared.subtask.Subtask.{Subtask}
use Rattle.statement_set.specs.declared.statement.Statement.{Statement}
use Rattle.statement_set.specs.declared.given.Given.{Given}
use Rattle.body_lang.specs.BodyTree.{BodyTree, num, input, neg, op}
use Rattle.body_lang.specs.Equations.{Sides, IsArithmetic}
use Rattle.body_lang.specs.Reads.{IsClosed}
use Rattle.statement_set.specs.Problem.{Task, var_count, given_vars, AreVars, IsEquationOver, IsSubtaskOver, IsStatementOver, HasNarrowValue, IsWellFormed}
use Rattle.statement_set.proofs.Lists.{distinct_push}

more_vars : (n m : ℕ) (vs : List ℕ) → n ≤ m → AreVars n vs → AreVars m vs
more_vars n m vs le h = All-weaker (λ v. v < n) (λ v. v < m) (λ v lt. omega arith) vs h

subtask_over_more : (n m : ℕ) → n ≤ m → (u : Subtask) → IsSubtaskOver n u → IsSubtaskOver m u
subtask_over_more n m le u h = record {
  inputs = more_vars n m u.inputs le h.inputs;
  some_inputs = h.some_inputs;
  distinct = h.distinct;
  outputs = more_vars n m u.outputs le h.outputs;
  some_outputs = h.some_outputs;
}

statement_over_more : (n m : ℕ) → n ≤ m → (s : Statement) → IsStatementOver n s → IsStatementOver m s
statement_over_more n m le s h = record {
  inputs = more_vars n m s.inputs le h.inputs;
  subs = All-weaker (IsSubtaskOver n) (IsSubtaskOver m) (subtask_over_more n m le) s.subs h.subs;
  output = omega (arith, h.output);
  body = h.body;
}

-- arithmetic over n variables
side_over_more : (n m : ℕ) → n ≤ m → (t : BodyTree) → IsArithmetic t → IsClosed n [] 0 t → IsClosed m [] 0 t
side_over_more n m le (num x) a h = tt
side_over_more n m le (input v) a h = omega (arith, le, h)
side_over_more n m le (neg t) a h = side_over_more n m le t a h
side_over_more n m le (op o t u) a h = (side_over_more n m le t a.0 h.0, side_over_more n m le u a.1 h.1)
side_over_more n m le _ a h = absurd a

equation_over_more : (n m : ℕ) → n ≤ m → (e : Sides) → IsEquationOver n e → IsEquationOver m e
equation_over_more n m le e h = record {
  arithmetic = h.arithmetic;
  left = side_over_more n m le e.left h.arithmetic.0 h.left;
  right = side_over_more n m le e.right h.arithmetic.1 h.right;
}

pub var_added : (p : Task) (name : List ℕ) → IsWellFormed p → var_count p < 1024 → (Contains p.names name → ⊥) → IsWellFormed (record p { names = p.names ++ name ∷ [] })
var_added p name h room fresh =
    let n = var_count p in
    let m = length (p.names ++ name ∷ []) in
    let le : n ≤ m = omega (arith, length-append p.names (name ∷ [])) in record {
      names = distinct_push p.names name h.names fresh;
      few_names = omega (arith, length-append p.names (name ∷ []));
      equations = All-weaker (IsEquationOver n) (IsEquationOver m) (equation_over_more n m le) p.equations h.equations;
      statements = All-weaker (IsStatementOver n) (IsStatementOver m) (statement_over_more n m le) p.statements h.statements;
      few_statements = h.few_statements;
      few_subtasks = h.few_subtasks;
      givens = more_vars n m (given_vars p) le h.givens;
      given_once = h.given_once;
      wants = more_vars n m p.wants le h.wants;
      narrow_sides = h.narrow_sides;
      narrow_bodies = h.narrow_bodies;
      narrow_values = h.narrow_values;
    }

pub given_added : (p : Task) (g : Given) → IsWellFormed p → g.var < var_count p → (Contains (given_vars p) g.var → ⊥) → HasNarrowValue g → IsWellFormed (record p { givens = p.givens ++ g ∷ [] })
given_added p g h lt fresh narrow =
    let e : map (λ (g : Given). g.var) (p.givens ++ g ∷ []) ≡ given_vars p ++ g.var ∷ [] = map-append (λ (g : Given). g.var) p.givens (g ∷ []) in record {
      names = h.names;
      few_names = h.few_names;
      equations = h.equations;
      statements = h.statements;
      few_statements = h.few_statements;
      few_subtasks = h.few_subtasks;
      givens = subst (AreVars (var_count p)) (sym e) (All-push (λ v. v < var_count p) (given_vars p) g.var h.givens lt);
      given_once = subst (AllPairs (λ x y. x ≢ y)) (sym e) (distinct_push (given_vars p) g.var h.given_once fresh);
      wants = h.wants;
      narrow_sides = h.narrow_sides;
      narrow_bodies = h.narrow_bodies;
      narrow_values = All-push HasNarrowValue p.givens g h.narrow_values narrow;
    }

-- no statement has more subtasks than all have together
pub few_subs : (p : Task) (ss : List Statement) (n : ℕ) (s : Statement) → IsWellFormed p → ss ≡ p.statements → n < length p.statements → s ≡ get_or ss n s → length s.subs ≤ 255
few_subs p ss n s h same lt is =
    let le = get_or-le-sum_by (λ (s : Statement). length s.subs) p.statements n s lt in
    let at = ap (λ (s : Statement). length s.subs) (is ∙ ap (λ (xs : List Statement). get_or xs n s) same) in
    omega (arith, le, at, h.few_subtasks)
