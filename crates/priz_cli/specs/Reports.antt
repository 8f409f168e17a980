-- Answers to several problems, and their report.
use Rattle.std.specs.Prelude.{ℕ, ◌+◌, List, [], ◌∷◌, ◌++◌, ⊤}
use Rattle.statement_set.specs.Problem.{Task}
use Rattle.answer_core.specs.declared.effort.Effort.{Effort}
use Rattle.answer_core.specs.declared.verdict.Answer.{Answer}
use Rattle.answer_core.specs.Answers.{IsAnswer}
use Rattle.answer_core.specs.Report.{answer_text}

-- each problem has its answer within the effort, in order
abbrev pub AreAnswers : Effort → List Task → List Answer → Type 0
AreAnswers effort [] [] = ⊤
AreAnswers effort (p ∷ problems) (a ∷ answers) = IsAnswer p effort a × AreAnswers effort problems answers
AreAnswers effort problems answers = ⊥

-- the lines of each answer, the first of which has this number
abbrev pub report_from : ℕ → List Task → List Answer → List ℕ
report_from index [] answers = []
report_from index (p ∷ problems) [] = []
report_from index (p ∷ problems) (a ∷ answers) = answer_text p index a ++ report_from (index + 1) problems answers

-- the report of the answers
abbrev pub report_of : List Task → List Answer → List ℕ
report_of problems answers = report_from 1 problems answers
