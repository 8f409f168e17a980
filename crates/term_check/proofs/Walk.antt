-- What one step of a walk through a block decides, and one answer of a step: of both checks.
use Rattle.std.proofs.Common.{◌≡◌, ◌↔◌, ℕ, ◌+◌, ◌<◌, ◌≤◌, List, [], ◌∷◌, length, get_or, drop, Some, Bool, false, IsTrue, ap, subst}
use Rattle.std.specs.Prelude.{slice_get}
use Rattle.priz_base.specs.Sets.{IsWithin, Adds}
use Rattle.priz_base.proofs.Deciding.{never, not_so}
use Rattle.priz_base.proofs.More.{drop_at}
use Rattle.statement_set.specs.declared.subtask.Subtask.{Subtask}
use Rattle.statement_set.specs.StatementTree.{StatementTree}
use Rattle.statement_set.specs.Problem.{Task}
use Rattle.proof_term.specs.Proof.{Steps, step, Subs}
use Rattle.proof_term.specs.declared.step.Step.{Step}
use Rattle.proof_term.specs.declared.step.Sub.{Sub}
use Rattle.proof_term.specs.Plain.{subs_of, steps_of}
use Rattle.term_check.proofs.Scopes.{within_added}

-- a property of a scope and a block that goes step by step: what it asks for of a step and then of the rest, at a
-- statement that is there, and nothing without one; and of the scope it asks for the members alone
pub record GoesByStep (p : Task) (P : List ℕ → Steps → Type 0) (Q : List ℕ → StatementTree → Subs → Type 0) : Type 0 where
  pub there : (S : List ℕ) (n : ℕ) (k : StatementTree) (subs : Subs) (more : Steps) → slice_get p.statements n ≡ Some k → P S (step n subs more) ↔ (Q S k subs × P (k.output ∷ S) more)
  pub missing : (S : List ℕ) (n : ℕ) (subs : Subs) (more : Steps) → length p.statements ≤ n → P S (step n subs more) → ⊥
  pub same : (S T : List ℕ) (b : Steps) → IsWithin S T × IsWithin T S → P S b ↔ P T b

-- the state of the loop over a block's steps: S is in scope, s is the next step, and the rest decides W
module _ (p : Task) (P : List ℕ → Steps → Type 0) (Q : List ℕ → StatementTree → Subs → Type 0) (by : GoesByStep p P Q) (W : Type 0) (S : List ℕ) (items : List Step) (i : ℕ) (s : Step) (lt : i < length items) (is : s ≡ get_or items i s) (decides : P S (steps_of (drop i items)) ↔ W) where
  next_decides : P S (step s.stmt (subs_of s.subs) (steps_of (drop (i + 1) items))) ↔ W
  next_decides = subst (λ x. P S x ↔ W) (ap steps_of (drop_at items i s lt is)) decides

  pub step_missing : length p.statements ≤ s.stmt → IsTrue false ↔ W
  step_missing le = never (λ w. by.missing S s.stmt (subs_of s.subs) (steps_of (drop (i + 1) items)) le (next_decides.1 w))

  pub step_refused : (k : StatementTree) → slice_get p.statements s.stmt ≡ Some k → (Q S k (subs_of s.subs) → ⊥) → IsTrue false ↔ W
  step_refused k e n = never (λ w. n ((by.there S s.stmt k (subs_of s.subs) (steps_of (drop (i + 1) items)) e).0 (next_decides.1 w)).0)

  pub step_passed : (k : StatementTree) (T : List ℕ) → slice_get p.statements s.stmt ≡ Some k → Q S k (subs_of s.subs) → Adds S T k.output → P T (steps_of (drop (i + 1) items)) ↔ W
  step_passed k T e q add =
      let rest = steps_of (drop (i + 1) items) in
      let f = by.there S s.stmt k (subs_of s.subs) rest e in
      let m = by.same T (k.output ∷ S) rest (within_added S T k.output add) in
      (λ h. next_decides.0 (f.1 (q, m.0 h)), λ w. m.1 (f.0 (next_decides.1 w)).1)

-- a property of subtasks and answers that goes one by one
abbrev pub GoesByOne : (List Subtask → Subs → Type 0) → Type 0
GoesByOne A = (u : Subtask) (us : List Subtask) (t : Sub) (ts : List Sub) → A (u ∷ us) (subs_of (t ∷ ts)) ↔ (A (u ∷ []) (subs_of (t ∷ [])) × A us (subs_of ts))

-- the state of the loop over the subtasks of a step: the rest of the answers decides
module _ (A : List Subtask → Subs → Type 0) (by : GoesByOne A) (us : List Subtask) (ts : List Sub) (i : ℕ) (u : Subtask) (t : Sub) (lu : i < length us) (iu : u ≡ get_or us i u) (lt : i < length ts) (it : t ≡ get_or ts i t) (decides : A (drop i us) (subs_of (drop i ts)) ↔ A us (subs_of ts)) where
  split : (A (u ∷ []) (subs_of (t ∷ [])) × A (drop (i + 1) us) (subs_of (drop (i + 1) ts))) ↔ A us (subs_of ts)
  split =
      let d : A (u ∷ drop (i + 1) us) (subs_of (t ∷ drop (i + 1) ts)) ↔ A us (subs_of ts) = subst (λ x. A x (subs_of (t ∷ drop (i + 1) ts)) ↔ A us (subs_of ts)) (drop_at us i u lu iu) (subst (λ x. A (drop i us) (subs_of x) ↔ A us (subs_of ts)) (drop_at ts i t lt it) decides) in
      let q = by u (drop (i + 1) us) t (drop (i + 1) ts) in
      (λ h. d.0 (q.1 h), λ h. q.0 (d.1 h))

  pub one_refused : (r : Bool) → IsTrue r ↔ A (u ∷ []) (subs_of (t ∷ [])) → r ≡ false → IsTrue false ↔ A us (subs_of ts)
  one_refused r test f = never (λ h. not_so r test f (split.1 h).0)

  pub one_passed : A (u ∷ []) (subs_of (t ∷ [])) → A (drop (i + 1) us) (subs_of (drop (i + 1) ts)) ↔ A us (subs_of ts)
  one_passed held = (λ h. split.0 (held, h), λ h. (split.1 h).1)
