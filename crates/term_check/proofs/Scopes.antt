-- A proof from a scope is one from a larger scope, so that the members of a scope alone matter.
use Rattle.std.proofs.Common.{◌↔◌, ℕ, List, [], ◌∷◌, ◌++◌, sym, subst, ⊎_elim, inl, inr}
use Rattle.std.specs.Prelude.{Contains, slice_get}
use Rattle.std.proofs.lemmas.List.Elements.{All-contains, Contains-append_left, Contains-append_right, Contains-append_cases}
use Rattle.priz_base.specs.Sets.{IsWithin, Adds}
use Rattle.term_check.specs.steps.Adding.{AddsAll}
use Rattle.priz_base.proofs.Members.{within_trans, contains_here, contains_there, contains_cases}
use Rattle.statement_set.specs.declared.subtask.Subtask.{Subtask}
use Rattle.statement_set.specs.Problem.{Task, results}
use Rattle.statement_set.proofs.Lists.{each, some_and_map, within_cons}
use Rattle.proof_term.specs.Proof.{Steps, done, step, Subs, no_more, known, block, proves, answers}

pub within_append : (U S T : List ℕ) → IsWithin S T → IsWithin (U ++ S) (U ++ T)
within_append U S T i =
    each (Contains (U ++ T)) (U ++ S) (λ n c. ⊎_elim (λ h. Contains-append_left U T n h) (λ h. Contains-append_right U T n (All-contains (Contains T) S n i h)) (Contains-append_cases U S n c))

mutual
  pub proves_more : (p : Task) (S T : List ℕ) (b : Steps) (R : List ℕ) → IsWithin S T → proves p S b R → proves p T b R
  proves_more p S T done R i d = within_trans R S T d i
  proves_more p S T (step n subs more) R i d =
      some_and_map (slice_get p.statements n)
      (λ s. IsWithin s.inputs S × answers p S s.subs subs × proves p (s.output ∷ S) more R)
      (λ s. IsWithin s.inputs T × answers p T s.subs subs × proves p (s.output ∷ T) more R)
      (λ s h. (within_trans s.inputs S T h.0 i, answers_more p S T s.subs subs i h.1, proves_more p (s.output ∷ S) (s.output ∷ T) more R (within_cons s.output S T i) h.2))
      d

  pub answers_more : (p : Task) (S T : List ℕ) (us : List Subtask) (subs : Subs) → IsWithin S T → answers p S us subs → answers p T us subs
  answers_more p S T [] no_more i a = a
  answers_more p S T [] (known more) i a = a
  answers_more p S T [] (block b more) i a = a
  answers_more p S T (u ∷ us) no_more i a = a
  answers_more p S T (u ∷ us) (known more) i a = (within_trans (results u) S T a.0 i, answers_more p S T us more i a.1)
  answers_more p S T (u ∷ us) (block b more) i a =
      (proves_more p (u.inputs ++ S) (u.inputs ++ T) b (results u) (within_append u.inputs S T i) a.0, answers_more p S T us more i a.1)

-- a set to which a number was added has the members of the longer list
pub within_added : (S T : List ℕ) (v : ℕ) → Adds S T v → IsWithin T (v ∷ S) × IsWithin (v ∷ S) T
within_added S T v a = (
  each (Contains (v ∷ S)) T (λ n c. ⊎_elim (λ e. subst (Contains (v ∷ S)) (sym e) (contains_here v S)) (λ h. contains_there v S n h) ((a n).0 c)),
  each (Contains T) (v ∷ S) (λ n c. (a n).1 (⊎_elim (λ e. inl (sym e)) (λ h. inr h) (contains_cases v S n c))),
)

pub within_added_all : (S T U : List ℕ) → AddsAll S T U → IsWithin T (U ++ S) × IsWithin (U ++ S) T
within_added_all S T U a = (
  each (Contains (U ++ S)) T (λ n c. ⊎_elim (λ h. Contains-append_left U S n h) (λ h. Contains-append_right U S n h) ((a n).0 c)),
  each (Contains T) (U ++ S) (λ n c. (a n).1 (Contains-append_cases U S n c)),
)

pub proves_same : (p : Task) (S T : List ℕ) (b : Steps) (R : List ℕ) → IsWithin S T × IsWithin T S → proves p S b R ↔ proves p T b R
proves_same p S T b R w = (proves_more p S T b R w.0, proves_more p T S b R w.1)
