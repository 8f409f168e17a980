-- The trees of rows.
use Rattle.std.proofs.Common.{◌≡◌, ℕ, ◌+◌, ◌<◌, List, [], ◌∷◌, ◌++◌, length, get_or, take, map, ap, sym, ◌∙◌, refl, Option}
use Rattle.std.proofs.lemmas.List.{get_or_default}
use Rattle.priz_base.proofs.More.{map_more}
use Rattle.proof_term.specs.declared.step.Sub.{Sub}
use Rattle.proof_term.specs.declared.step.Sub.TheVariants.{Known, Body}
use Rattle.proof_term.specs.Proof.{Steps, Subs, step, known, block, push}
use Rattle.proof_term.specs.Plain.{subs_of}
use Rattle.worked_problems.specs.declared.block.StepRow.{StepRow}
use Rattle.worked_problems.specs.declared.block.SubRow.TheFolds.{fold_out-StepRow}
use Rattle.worked_problems.specs.BlockRows.{answers_from, steps_from, answer_from, step_from, answer_of, row_step, row_subs, row_steps}

-- a block's answers by those of its rows
pub answers_are : (subs : List Sub) → subs_of subs ≡ answers_from (map answer_of subs)
answers_are [] = refl
answers_are (Known ∷ more) = ap known (answers_are more)
answers_are (Body b ∷ more) = ap (block b) (answers_are more)

steps_push : (ss : List (ℕ × Subs)) (s : ℕ × Subs) → steps_from (ss ++ s ∷ []) ≡ push (steps_from ss) s.0 s.1
steps_push [] s = refl
steps_push (t ∷ ss) s = ap (step t.0 t.1) (steps_push ss s)

row_step_is : (r : StepRow) → row_step r ≡ (r.stmt, row_subs r.subs.now)
row_step_is r = fold_out-StepRow (Option Steps) (ℕ × Subs) answer_from step_from r

-- one more step
pub steps_more : (rows : List StepRow) (i : ℕ) (d : StepRow) (old new : Steps) (subs : List Sub) → i < length rows → old ≡ row_steps (take i rows) → new ≡ push old (get_or rows i d).stmt (subs_of subs) → subs_of subs ≡ row_subs (get_or rows i d).subs.now → new ≡ row_steps (take (i + 1) rows)
steps_more rows i d old new subs lt before pushed same =
    let r = get_or rows i d in
    let parts = ap steps_from (map_more row_step rows i r lt (get_or_default rows i d r lt)) ∙ steps_push (map row_step (take i rows)) (row_step r) ∙ ap (λ (s : ℕ × Subs). push (row_steps (take i rows)) s.0 s.1) (row_step_is r) in
    pushed ∙ ap (λ b. push b r.stmt (subs_of subs)) before ∙ ap (push (row_steps (take i rows)) r.stmt) same ∙ sym parts
