-- A block that is separate from a scope is so from a smaller one.
use Rattle.std.proofs.Common.{◌↔◌, ℕ, List, [], ◌∷◌, ◌++◌}
use Rattle.std.specs.Prelude.{Contains, slice_get}
use Rattle.std.proofs.lemmas.List.Elements.{All-contains, All-weaker}
use Rattle.priz_base.specs.Sets.{IsWithin}
use Rattle.statement_set.specs.declared.subtask.Subtask.{Subtask}
use Rattle.statement_set.specs.Problem.{Task}
use Rattle.statement_set.proofs.Lists.{within_cons, some_and_map}
use Rattle.proof_term.specs.Proof.{Steps, done, step, Subs, no_more, known, block}
use Rattle.term_check.specs.Separate.{AreNew, IsSeparateFrom, AreSeparateFrom}
use Rattle.term_check.proofs.Scopes.{within_append}

new_less : (vs S T : List ℕ) → IsWithin T S → AreNew vs S → AreNew vs T
new_less vs S T i a = All-weaker (λ v. ¬ Contains S v) (λ v. ¬ Contains T v) (λ v h c. h (All-contains (Contains S) T v i c)) vs a

mutual
  pub separate_less : (p : Task) (S T : List ℕ) (b : Steps) → IsWithin T S → IsSeparateFrom p S b → IsSeparateFrom p T b
  separate_less p S T done i d = d
  separate_less p S T (step n subs more) i d =
      some_and_map (slice_get p.statements n)
      (λ s. AreSeparateFrom p S s.subs subs × IsSeparateFrom p (s.output ∷ S) more)
      (λ s. AreSeparateFrom p T s.subs subs × IsSeparateFrom p (s.output ∷ T) more)
      (λ s h. (separates_less p S T s.subs subs i h.0, separate_less p (s.output ∷ S) (s.output ∷ T) more (within_cons s.output T S i) h.1))
      d

  pub separates_less : (p : Task) (S T : List ℕ) (us : List Subtask) (subs : Subs) → IsWithin T S → AreSeparateFrom p S us subs → AreSeparateFrom p T us subs
  separates_less p S T [] no_more i d = d
  separates_less p S T [] (known more) i d = d
  separates_less p S T [] (block b more) i d = d
  separates_less p S T (u ∷ us) no_more i d = d
  separates_less p S T (u ∷ us) (known more) i d = (new_less u.inputs S T i d.0, separates_less p S T us more i d.1)
  separates_less p S T (u ∷ us) (block b more) i d =
      (new_less u.inputs S T i d.0, separate_less p (u.inputs ++ S) (u.inputs ++ T) b (within_append u.inputs T S i) d.1, separates_less p S T us more i d.2)

pub separate_same : (p : Task) (S T : List ℕ) (b : Steps) → IsWithin S T × IsWithin T S → IsSeparateFrom p S b ↔ IsSeparateFrom p T b
separate_same p S T b w = (separate_less p S T b w.1, separate_less p T S b w.0)
