-- A block that grows at its end.
use Rattle.std.proofs.Common.{◌≡◌, ℕ, List, [], ◌∷◌, ◌++◌, Some, ap, sym, subst, refl}
use Rattle.std.specs.Prelude.{slice_get}
use Rattle.priz_base.specs.Sets.{IsWithin}
use Rattle.priz_base.proofs.Members.{within_trans}
use Rattle.statement_set.specs.declared.statement.Statement.{Statement}
use Rattle.statement_set.specs.Problem.{Task}
use Rattle.statement_set.proofs.Lists.{some_and_at, some_and_map, some_and_both, within_cons}
use Rattle.proof_term.specs.declared.step.Step.{Step}
use Rattle.proof_term.specs.Proof.{Steps, done, step, no_more, proves, answers, push}
use Rattle.proof_term.specs.Plain.{steps_of, subs_of}

pub steps_of-push : (xs : List Step) (s : Step) → steps_of (xs ++ s ∷ []) ≡ push (steps_of xs) s.stmt (subs_of s.subs)
steps_of-push [] s = refl
steps_of-push (x ∷ xs) s = ap (step x.stmt (subs_of x.subs)) (steps_of-push xs s)

-- what gives R gives each part of R
pub proves_fewer : (p : Task) (S : List ℕ) (b : Steps) (Q R : List ℕ) → IsWithin Q R → proves p S b R → proves p S b Q
proves_fewer p S done Q R i d = within_trans Q R S i d
proves_fewer p S (step n subs more) Q R i d =
    some_and_map (slice_get p.statements n)
    (λ s. IsWithin s.inputs S × answers p S s.subs subs × proves p (s.output ∷ S) more R)
    (λ s. IsWithin s.inputs S × answers p S s.subs subs × proves p (s.output ∷ S) more Q)
    (λ s h. (h.0, h.1, proves_fewer p (s.output ∷ S) more Q R i h.2))
    d

-- one more step, of a statement without subtasks whose inputs the block gives, gives the output too
pub proves_push : (p : Task) (S : List ℕ) (b : Steps) (n : ℕ) (s : Statement) (R : List ℕ) → slice_get p.statements n ≡ Some s → s.subs ≡ [] → proves p S b s.inputs → proves p S b R → proves p S (push b n no_more) (s.output ∷ R)
proves_push p S done n s R e plain i r =
    some_and_at (slice_get p.statements n) (λ t. IsWithin t.inputs S × answers p S t.subs no_more × IsWithin (s.output ∷ R) (t.output ∷ S)) s e
    (i, subst (λ us. answers p S us no_more) (sym plain) tt, within_cons s.output R S r)
proves_push p S (step m subs more) n s R e plain i r =
    some_and_both (slice_get p.statements m)
    (λ t. IsWithin t.inputs S × answers p S t.subs subs × proves p (t.output ∷ S) more s.inputs)
    (λ t. IsWithin t.inputs S × answers p S t.subs subs × proves p (t.output ∷ S) more R)
    (λ t. IsWithin t.inputs S × answers p S t.subs subs × proves p (t.output ∷ S) (push more n no_more) (s.output ∷ R))
    (λ t h k. (h.0, h.1, proves_push p (t.output ∷ S) more n s R e plain h.2 k.2))
    i r
