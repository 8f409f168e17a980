-- A proof goes step by step, and its answers one by one.
use Rattle.std.proofs.Common.{◌≡◌, ◌↔◌, ℕ, suc, List, [], ◌∷◌, ◌++◌, length, Bool, IsTrue, refl, sym, ap, subst}
use Rattle.std.specs.Prelude.{IsSomeAnd}
use Rattle.std.proofs.lemmas.Option.{slice_get_past}
use Rattle.priz_base.specs.Sets.{IsWithin}
use Rattle.priz_base.proofs.Deciding.{trans}
use Rattle.statement_set.specs.declared.subtask.Subtask.{Subtask}
use Rattle.statement_set.specs.StatementTree.{StatementTree}
use Rattle.statement_set.specs.Problem.{Task, results, given_vars}
use Rattle.proof_term.specs.Proof.{Steps, Subs, proves, answers, ProvesGoal}
use Rattle.proof_term.specs.declared.step.Sub.{Sub}
use Rattle.proof_term.specs.declared.step.Sub.TheVariants.{Known, Body}
use Rattle.proof_term.specs.Plain.{subs_of}
use Rattle.term_check.specs.steps.Adding.{AddsAll}
use Rattle.term_check.proofs.Scopes.{within_added_all, proves_same}
use Rattle.term_check.proofs.Start.{same_as_list}
use Rattle.term_check.proofs.Walk.{GoesByStep, GoesByOne}

-- what a proof asks for of a step
abbrev pub Fits : Task → List ℕ → StatementTree → Subs → Type 0
Fits p S s subs = IsWithin s.inputs S × answers p S s.subs subs

pub proof_by_step : (p : Task) (R : List ℕ) → GoesByStep p (λ S b. proves p S b R) (Fits p)
proof_by_step p R = record {
  there = λ S n k subs more e.
      let P : StatementTree → Type 0 = λ s. IsWithin s.inputs S × answers p S s.subs subs × proves p (s.output ∷ S) more R in
      (λ h. let x : P k = subst (λ o. IsSomeAnd o P) e h in ((x.0, x.1), x.2), λ h. subst (λ o. IsSomeAnd o P) (sym e) (h.0.0, h.0.1, h.1));
  missing = λ S n subs more le h.
      let P : StatementTree → Type 0 = λ s. IsWithin s.inputs S × answers p S s.subs subs × proves p (s.output ∷ S) more R in
      subst (λ o. IsSomeAnd o P) (slice_get_past p.statements n le) h;
  same = λ S T b w. proves_same p S T b R w;
}

-- answers are as many as the subtasks
pub answers_length : (p : Task) (S : List ℕ) (us : List Subtask) (ss : List Sub) → answers p S us (subs_of ss) → length us ≡ length ss
answers_length p S [] [] a = refl
answers_length p S [] (Known ∷ ss) a = absurd a
answers_length p S [] (Body b ∷ ss) a = absurd a
answers_length p S (u ∷ us) [] a = absurd a
answers_length p S (u ∷ us) (Known ∷ ss) a = ap suc (answers_length p S us ss a.1)
answers_length p S (u ∷ us) (Body b ∷ ss) a = ap suc (answers_length p S us ss a.1)

pub answers_by_one : (p : Task) (S : List ℕ) → GoesByOne (answers p S)
answers_by_one p S u us Known ts = (λ a. ((a.0, tt), a.1), λ a. (a.0.0, a.1))
answers_by_one p S u us (Body b) ts = (λ a. ((a.0, tt), a.1), λ a. (a.0.0, a.1))

pub known_answers : (p : Task) (S : List ℕ) (u : Subtask) (sub : Sub) (r : Bool) → sub ≡ Known → IsTrue r ↔ IsWithin (results u) S → IsTrue r ↔ answers p S (u ∷ []) (subs_of (sub ∷ []))
known_answers p S u sub r is t = subst (λ x. IsTrue r ↔ answers p S (u ∷ []) (subs_of (x ∷ []))) (sym is) (λ h. (t.0 h, tt), λ a. t.1 a.0)

pub body_answers : (p : Task) (S T : List ℕ) (u : Subtask) (b : Steps) (sub : Sub) (r : Bool) → sub ≡ Body b → AddsAll S T u.inputs → IsTrue r ↔ proves p T b (results u) → IsTrue r ↔ answers p S (u ∷ []) (subs_of (sub ∷ []))
body_answers p S T u b sub r is add t =
    let y = trans t (proves_same p T (u.inputs ++ S) b (results u) (within_added_all S T u.inputs add)) in
    subst (λ x. IsTrue r ↔ answers p S (u ∷ []) (subs_of (x ∷ []))) (sym is) (λ h. (y.0 h, tt), λ a. y.1 a.0)

pub goal_decided : (p : Task) (S : List ℕ) (b : Steps) (r : Bool) → AddsAll [] S (given_vars p) → IsTrue r ↔ proves p S b p.wants → IsTrue r ↔ ProvesGoal p b
goal_decided p S b r all t = trans t (proves_same p S (given_vars p) b p.wants (same_as_list S (given_vars p) all))
