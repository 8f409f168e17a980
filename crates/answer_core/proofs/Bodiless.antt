-- The first step of a block that has no body.
use Rattle.std.proofs.Common.{◌≡◌, ℕ, ◌+◌, ◌<◌, ◌≤◌, Bool, true, false, cond, List, [], ◌∷◌, ◌++◌, length, drop, get_or, Option, Some, None, refl, sym, ap, ◌∙◌}
use Rattle.std.specs.Prelude.{All, IsSomeAnd, find, not, is_some, slice_get, unwrap_or}
use Rattle.std.specs.Option.{option_copied, option_map}
use denote.Bor.{Bor}
use Rattle.std.proofs.lemmas.List.{drop_all}
use Rattle.std.proofs.lemmas.List.Elements.{All-nil, All-cons}
use Rattle.priz_base.proofs.More.{drop_at, some_below}
use Rattle.body_lang.specs.declared.body.Body.{Body}
use Rattle.body_lang.specs.BodyTree.{BodyTree}
use Rattle.body_lang.specs.View.{body_tree}
use Rattle.statement_set.specs.declared.statement.Statement.{Statement}
use Rattle.statement_set.specs.declared.subtask.Subtask.{Subtask}
use Rattle.statement_set.specs.Problem.{Task, IsPlain}
use Rattle.statement_set.proofs.Lists.{some_and, all_at}
use Rattle.proof_term.specs.declared.step.Step.{Step}
use Rattle.proof_term.specs.Proof.{Subs, no_more, known, block, proves, answers}
use Rattle.proof_term.specs.Plain.{subs_of, steps_of}
use Rattle.priz_base.specs.Sets.{IsWithin}
use Rattle.proof_term.specs.Bodies.{first_without_body, statements_in, statements_in_all, lacks_body}

module _ (p : Task) where
  -- a step of a proof is that of a statement, and has no answers where no statement has a subtask
  pub record IsPlainStep (s : Step) : Type 0 where
    pub within : s.stmt < length p.statements
    pub alone : subs_of s.subs ≡ no_more

  no_answers : (S : List ℕ) (us : List Subtask) (subs : Subs) → us ≡ [] → answers p S us subs → subs ≡ no_more
  no_answers S [] no_more e h = refl
  no_answers S [] (known more) e h = absurd h
  no_answers S [] (block b more) e h = absurd h
  no_answers S (u ∷ us) subs e h = absurd (cc)

  pub plain_steps : IsPlain p → (S R : List ℕ) (items : List Step) → proves p S (steps_of items) R → All IsPlainStep items
  plain_steps plain S R [] h = All-nil IsPlainStep
  plain_steps plain S R (s ∷ items) h =
      let its = some_and (slice_get p.statements s.stmt) (λ t. IsWithin t.inputs S × answers p S t.subs (subs_of s.subs) × proves p (t.output ∷ S) (steps_of items) R) h in
      All-cons IsPlainStep s items
      (record {
        within = some_below p.statements s.stmt its.0 its.1;
        alone = no_answers S its.0.subs (subs_of s.subs) (all_at (λ t. t.subs ≡ []) p.statements s.stmt its.0 plain its.1) its.2.1;
      })
      (plain_steps plain (its.0.output ∷ S) R items its.2.2)

  -- whether the body of a statement is missing
  pub lacks_is : (n : ℕ) (o : Option (Bor Body)) (r : Bool) → IsSomeAnd (slice_get p.statements n) (λ t. option_map body_tree (option_copied o) ≡ t.body) → is_some o ≡ not r → lacks_body p n ≡ r
  lacks_is n o r its h =
      let found = some_and (slice_get p.statements n) (λ t. option_map body_tree (option_copied o) ≡ t.body) its in
      ap (λ (s : Option Statement). not (is_some (unwrap_or s (record { inputs = []; subs = []; output = 0; body = None })).body)) found.1
      ∙ ap (λ (b : Option BodyTree). not (is_some b)) (sym found.2) ∙ by o r h where
        by : (o : Option (Bor Body)) (r : Bool) → is_some o ≡ not r → not (is_some (option_map body_tree (option_copied o))) ≡ r
        by None true h = refl
        by None false h = absurd (cc)
        by (Some b) true h = absurd (cc)
        by (Some b) false h = refl

  module _ (items : List Step) (i : ℕ) (s : Step) (lt : i < length items) (is : s ≡ get_or items i s) (alone : subs_of s.subs ≡ no_more) where
    abbrev behind : List Step
    behind = drop (i + 1) items

    opened : first_without_body p (steps_of (drop i items)) ≡ cond (lacks_body p s.stmt) (Some s.stmt) (first_without_body p (steps_of behind))
    opened =
        ap (λ (l : List Step). first_without_body p (steps_of l)) (drop_at items i s lt is)
        ∙ ap (λ a. cond (lacks_body p s.stmt) (Some s.stmt) (find (lacks_body p) (statements_in_all a ++ statements_in (steps_of behind)))) alone

    -- it is the first
    pub bodiless_here : lacks_body p s.stmt ≡ true → first_without_body p (steps_of (drop i items)) ≡ Some s.stmt
    bodiless_here h = opened ∙ ap (λ b. cond b (Some s.stmt) (first_without_body p (steps_of behind))) h

    -- the first stands behind it
    pub bodiless_behind : lacks_body p s.stmt ≡ false → first_without_body p (steps_of (drop i items)) ≡ first_without_body p (steps_of behind)
    bodiless_behind h = opened ∙ ap (λ b. cond b (Some s.stmt) (first_without_body p (steps_of behind))) h

  pub none_left : (items : List Step) (i : ℕ) → length items ≤ i → first_without_body p (steps_of (drop i items)) ≡ None
  none_left items i le = ap (λ (l : List Step). first_without_body p (steps_of l)) (drop_all i items le)
