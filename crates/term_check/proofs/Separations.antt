-- Being separate goes step by step, and subtask by subtask.
use Rattle.std.proofs.Common.{◌≡◌, ◌↔◌, ℕ, suc, List, [], ◌∷◌, ◌++◌, length, Bool, true, IsTrue, refl, sym, ap, subst}
use Rattle.std.specs.Prelude.{IsSomeAnd}
use Rattle.std.proofs.lemmas.Option.{slice_get_past}
use Rattle.priz_base.proofs.Deciding.{trans}
use Rattle.statement_set.specs.declared.subtask.Subtask.{Subtask}
use Rattle.statement_set.specs.StatementTree.{StatementTree}
use Rattle.statement_set.specs.Problem.{Task, given_vars}
use Rattle.proof_term.specs.Proof.{Steps, Subs}
use Rattle.proof_term.specs.declared.step.Sub.{Sub}
use Rattle.proof_term.specs.declared.step.Sub.TheVariants.{Known, Body}
use Rattle.proof_term.specs.Plain.{subs_of}
use Rattle.term_check.specs.Separate.{AreNew, IsSeparateFrom, AreSeparateFrom, IsSeparate}
use Rattle.term_check.specs.steps.Adding.{AddsAll}
use Rattle.term_check.proofs.Scopes.{within_added_all}
use Rattle.term_check.proofs.Separates.{separate_same}
use Rattle.term_check.proofs.Start.{same_as_list}
use Rattle.term_check.proofs.Walk.{GoesByStep, GoesByOne}

-- what is asked for of a step
abbrev pub IsApart : Task → List ℕ → StatementTree → Subs → Type 0
IsApart p S s subs = AreSeparateFrom p S s.subs subs

pub separate_by_step : (p : Task) → GoesByStep p (IsSeparateFrom p) (IsApart p)
separate_by_step p = record {
  there = λ S n k subs more e.
      let P : StatementTree → Type 0 = λ s. AreSeparateFrom p S s.subs subs × IsSeparateFrom p (s.output ∷ S) more in
      (λ h. subst (λ o. IsSomeAnd o P) e h, λ h. subst (λ o. IsSomeAnd o P) (sym e) h);
  missing = λ S n subs more le h.
      let P : StatementTree → Type 0 = λ s. AreSeparateFrom p S s.subs subs × IsSeparateFrom p (s.output ∷ S) more in
      subst (λ o. IsSomeAnd o P) (slice_get_past p.statements n le) h;
  same = λ S T b w. separate_same p S T b w;
}

-- answers are as many as the subtasks
pub separate_length : (p : Task) (S : List ℕ) (us : List Subtask) (ss : List Sub) → AreSeparateFrom p S us (subs_of ss) → length us ≡ length ss
separate_length p S [] [] a = refl
separate_length p S [] (Known ∷ ss) a = absurd a
separate_length p S [] (Body b ∷ ss) a = absurd a
separate_length p S (u ∷ us) [] a = absurd a
separate_length p S (u ∷ us) (Known ∷ ss) a = ap suc (separate_length p S us ss a.1)
separate_length p S (u ∷ us) (Body b ∷ ss) a = ap suc (separate_length p S us ss a.2)

pub separate_by_one : (p : Task) (S : List ℕ) → GoesByOne (AreSeparateFrom p S)
separate_by_one p S u us Known ts = (λ h. ((h.0, tt), h.1), λ h. (h.0.0, h.1))
separate_by_one p S u us (Body b) ts = (λ h. ((h.0, h.1, tt), h.2), λ h. (h.0.0, h.0.1, h.1))

-- where an input is in scope, the subtask is not separate, however it is answered
pub new_first : (p : Task) (S : List ℕ) (u : Subtask) (t : Sub) → AreSeparateFrom p S (u ∷ []) (subs_of (t ∷ [])) → AreNew u.inputs S
new_first p S u Known h = h.0
new_first p S u (Body b) h = h.0

pub known_separate : (p : Task) (S : List ℕ) (u : Subtask) (t : Sub) → t ≡ Known → AreNew u.inputs S → IsTrue true ↔ AreSeparateFrom p S (u ∷ []) (subs_of (t ∷ []))
known_separate p S u t is new = subst (λ x. IsTrue true ↔ AreSeparateFrom p S (u ∷ []) (subs_of (x ∷ []))) (sym is) (λ e. (new, tt), λ a. refl)

pub body_separate : (p : Task) (S T : List ℕ) (u : Subtask) (b : Steps) (t : Sub) (r : Bool) → t ≡ Body b → AddsAll S T u.inputs → AreNew u.inputs S → IsTrue r ↔ IsSeparateFrom p T b → IsTrue r ↔ AreSeparateFrom p S (u ∷ []) (subs_of (t ∷ []))
body_separate p S T u b t r is add new test =
    let m = trans test (separate_same p T (u.inputs ++ S) b (within_added_all S T u.inputs add)) in
    subst (λ x. IsTrue r ↔ AreSeparateFrom p S (u ∷ []) (subs_of (x ∷ []))) (sym is) (λ h. (new, m.0 h, tt), λ a. m.1 a.1)

pub goal_separate : (p : Task) (S : List ℕ) (b : Steps) (r : Bool) → AddsAll [] S (given_vars p) → IsTrue r ↔ IsSeparateFrom p S b → IsTrue r ↔ IsSeparate p b
goal_separate p S b r all t = trans t (separate_same p S (given_vars p) b (same_as_list S (given_vars p) all))
