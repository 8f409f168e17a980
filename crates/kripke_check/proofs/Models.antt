-- What it takes to be a countermodel, in terms of what worlds obey.
use Rattle.std.proofs.Common.{◌↔◌, ℕ, ◌+◌, ◌<◌, List, ⊎_elim, inl, inr, arith}
use Rattle.std.specs.Prelude.{Contains, All, Any, Bool, IsTrue}
use Rattle.std.proofs.lemmas.Bool.{cases_eq}
use Rattle.std.proofs.lemmas.List.Elements.{All-contains, All-weaker, All-map}
use Rattle.priz_base.specs.Sets.{IsWithin, Adds}
use Rattle.priz_base.proofs.Members.{within_trans}
use Rattle.statement_set.specs.declared.subtask.Subtask.{Subtask}
use Rattle.statement_set.specs.StatementTree.{StatementTree}
use Rattle.statement_set.specs.declared.given.Given.{Given}
use Rattle.statement_set.specs.Problem.{Task, AreVars, given_vars}
use Rattle.statement_set.specs.Countermodel.{Refutes}
use Rattle.statement_set.specs.Formula.{statement_formula, subtask_formula}
use Rattle.statement_set.specs.Forcing.{World, forces}
use Rattle.statement_set.proofs.Lists.{each, all_of_map, some_lacked}
use Rattle.statement_set.proofs.Obeys as formulas
use Rattle.kripke_check.specs.steps.Obeys.{ForcesSubtask, Obeys, ObeysAll, AboveObey, AreSame}

-- the statements are forced where each world above obeys them
pub above_forced : (L : List World) (p : Task) (w : World) → Contains L w → AboveObey L p w ↔ All (λ s. forces L w (statement_formula s)) p.statements
above_forced L p w c = (
  λ h. each (λ s. forces L w (statement_formula s)) p.statements (λ s k.
      (formulas.statement_forced L w s c).0 (each (formulas.Obeys L w s) L (λ u d i g subs.
      All-contains (Obeys L u) p.statements s (All-contains (λ u. IsWithin w u → ObeysAll L p u) L u h d i) k g
      (All-weaker (λ t. forces L u (subtask_formula t)) (ForcesSubtask L u) (λ t f. (formulas.subtask_forced L u t d).1 f) s.subs subs)))),
  λ f. each (λ u. IsWithin w u → ObeysAll L p u) L (λ u d i.
      each (Obeys L u) p.statements (λ s k g subs.
      All-contains (formulas.Obeys L w s) L u ((formulas.statement_forced L w s c).1 (All-contains (λ s. forces L w (statement_formula s)) p.statements s f k)) d i g
      (All-weaker (ForcesSubtask L u) (λ t. forces L u (subtask_formula t)) (λ t h. (formulas.subtask_forced L u t d).0 h) s.subs subs))),
)

-- of two worlds with the same members both obey
subtask_same : (L : List World) (w u : World) → IsWithin w u → (t : Subtask) → ForcesSubtask L w t → ForcesSubtask L u t
subtask_same L w u i t h = All-weaker (λ x. IsWithin w x → IsWithin t.inputs x → IsWithin t.outputs x) (λ x. IsWithin u x → IsWithin t.inputs x → IsWithin t.outputs x) (λ x k j. k (within_trans w u x i j)) L h

obeys_same : (L : List World) (w u : World) → AreSame w u → (s : StatementTree) → Obeys L u s → Obeys L w s
obeys_same L w u same s o = λ i subs. All-contains (Contains w) u s.output same.1 (o (within_trans s.inputs w u i same.0) (All-weaker (ForcesSubtask L w) (ForcesSubtask L u) (subtask_same L w u same.0) s.subs subs))

-- so it is enough that one of them is among those that do if they are above the root
pub same_obeys : (L : List World) (p : Task) (root w : World) (rest : List World) → Any (AreSame w) rest → All (λ u. IsWithin root u → ObeysAll L p u) rest → IsWithin root w → ObeysAll L p w
same_obeys L p root w rest a h i =
    let u = a.1 in
    let o : ObeysAll L p u = All-contains (λ u. IsWithin root u → ObeysAll L p u) rest u h (a.0, a.2, a.3) (within_trans root w u i a.4.0) in
    All-weaker (Obeys L u) (Obeys L w) (obeys_same L w u a.4) p.statements o

-- the set of the first variables
pub first_more : (old new : List ℕ) (v : ℕ) → Adds old new v → ((n : ℕ) → Contains old n ↔ (n < v)) → (n : ℕ) → Contains new n ↔ (n < v + 1)
first_more old new v a h n = (
  λ c. ⊎_elim (λ e. omega (arith, e)) (λ o. omega (arith, (h n).0 o)) ((a n).0 c),
  λ lt. ⊎_elim (λ e. (a n).1 (inl e)) (λ ne. (a n).1 (inr ((h n).1 (omega (arith, ne, lt))))) (cases_eq n v),
)

pub all_vars : (vars : List ℕ) (n : ℕ) (L : List World) → ((v : ℕ) → Contains vars v ↔ (v < n)) → All (λ w. IsWithin w vars) L ↔ All (AreVars n) L
all_vars vars n L h = (
  All-weaker (λ w. IsWithin w vars) (AreVars n) (λ w i. All-weaker (Contains vars) (λ v. v < n) (λ v c. (h v).0 c) w i) L,
  All-weaker (AreVars n) (λ w. IsWithin w vars) (λ w i. All-weaker (λ v. v < n) (Contains vars) (λ v c. (h v).1 c) w i) L,
)

-- the root refutes the goal where it has the givens, lacks a want, and all above it obey
pub refutes_decided : (p : Task) (L : List World) (w : World) (r : Bool) → Contains L w → All (λ (g : Given). Contains w g.var) p.givens → (IsWithin p.wants w → ⊥) → IsTrue r ↔ AboveObey L p w → IsTrue r ↔ Refutes p (given_vars p) L w
refutes_decided p L w r c gs lacks t =
    let f = above_forced L p w c in (
      λ e. record {
        givens = All-map (Contains w) (λ (g : Given). g.var) p.givens gs;
        lacks = some_lacked p.wants w lacks;
        statements = f.0 (t.0 e);
      },
      λ m. t.1 (f.1 m.statements),
    )

pub givens_lacked : (p : Task) (L : List World) (w : World) → (All (λ (g : Given). Contains w g.var) p.givens → ⊥) → Refutes p (given_vars p) L w → ⊥
givens_lacked p L w n m = n (all_of_map (Contains w) (λ (g : Given). g.var) p.givens m.givens)

pub wants_held : (p : Task) (L : List World) (w : World) → IsWithin p.wants w → Refutes p (given_vars p) L w → ⊥
wants_held p L w i m =
    let a = m.lacks in
    a.4 (All-contains (Contains w) p.wants a.1 i (a.0, a.2, a.3))
