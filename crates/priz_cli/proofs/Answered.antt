-- One more answer, and its lines at the end of the report.
use Rattle.std.proofs.Common.{◌≡◌, ℕ, suc, ◌+◌, ◌<◌, List, [], ◌∷◌, ◌++◌, length, get_or, take, sym, ap, ◌∙◌, add-zero, append-nil, append_assoc, arith}
use Rattle.std.proofs.lemmas.List.{length-take}
use Rattle.priz_base.proofs.More.{take_at}
use Rattle.statement_set.specs.Problem.{Task}
use Rattle.answer_core.specs.declared.effort.Effort.{Effort}
use Rattle.answer_core.specs.declared.verdict.Answer.{Answer}
use Rattle.answer_core.specs.Answers.{IsAnswer}
use Rattle.answer_core.specs.Report.{answer_text}
use Rattle.priz_cli.specs.Reports.{AreAnswers, report_from, report_of}

-- one more problem has its answer
pub answers_more : (effort : Effort) (ps : List Task) (answers : List Answer) (p : Task) (a : Answer) → AreAnswers effort ps answers → IsAnswer p effort a → AreAnswers effort (ps ++ p ∷ []) (answers ++ a ∷ [])
answers_more effort [] [] p a h own = (own, tt)
answers_more effort [] (b ∷ bs) p a h own = absurd h
answers_more effort (q ∷ ps) [] p a h own = absurd h
answers_more effort (q ∷ ps) (b ∷ bs) p a h own = (h.0, answers_more effort ps bs p a h.1 own)

-- the report of one more answer ends with its lines
pub report_more : (effort : Effort) (index : ℕ) (ps : List Task) (answers : List Answer) (p : Task) (a : Answer) → AreAnswers effort ps answers
    → report_from index (ps ++ p ∷ []) (answers ++ a ∷ []) ≡ report_from index ps answers ++ answer_text p (index + length ps) a
report_more effort index [] [] p a h = append-nil (answer_text p index a) ∙ ap (λ n. answer_text p n a) (sym (add-zero index))
report_more effort index [] (b ∷ bs) p a h = absurd h
report_more effort index (q ∷ ps) [] p a h = absurd h
report_more effort index (q ∷ ps) (b ∷ bs) p a h =
    let front = answer_text q index b in
    let counted : (index + 1) + length ps ≡ index + suc (length ps) = omega arith in
    ap (λ xs. front ++ xs) (report_more effort (index + 1) ps bs p a h.1)
    ∙ sym (append_assoc front (report_from (index + 1) ps bs) (answer_text p ((index + 1) + length ps) a))
    ∙ ap (λ n. (front ++ report_from (index + 1) ps bs) ++ answer_text p n a) counted

-- the answers up to a problem and their report, with the answer of that problem
pub answered_more : (effort : Effort) (ps : List Task) (i : ℕ) (p : Task) (old new : List Answer) (a : Answer) (before after : List ℕ) → i < length ps → p ≡ get_or ps i p
    → AreAnswers effort (take i ps) old → before ≡ report_of (take i ps) old → IsAnswer p effort a → new ≡ old ++ a ∷ [] → after ≡ before ++ answer_text p (i + 1) a
    → AreAnswers effort (take (i + 1) ps) new × (after ≡ report_of (take (i + 1) ps) new)
answered_more effort ps i p old new a before after lt is answers report own pushed rendered =
    let more = take_at ps i p lt is in
    let number : 1 + length (take i ps) ≡ i + 1 = omega (arith, length-take i ps) in
    let lines : report_of (take i ps ++ p ∷ []) (old ++ a ∷ []) ≡ report_of (take i ps) old ++ answer_text p (i + 1) a =
    report_more effort 1 (take i ps) old p a answers ∙ ap (λ n. report_of (take i ps) old ++ answer_text p n a) number in (
      rw (more, pushed) (answers_more effort (take i ps) old p a answers own),
      rendered ∙ ap (λ xs. xs ++ answer_text p (i + 1) a) report ∙ sym lines
          ∙ ap (λ qs. report_of qs (old ++ a ∷ [])) (sym more) ∙ ap (report_of (take (i + 1) ps)) (sym pushed),
    )
