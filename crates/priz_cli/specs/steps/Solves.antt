-- What answering several problems answers.
use Rattle.std.specs.Prelude.{◌≡◌, List}
use Rattle.statement_set.specs.Problem.{Task}
use Rattle.answer_core.specs.declared.effort.Effort.{Effort}
use Rattle.priz_cli.specs.declared.solve.Solution.{Solution}
use Rattle.priz_cli.specs.Reports.{AreAnswers, report_of}

-- the answers within the effort, and their report
pub record Solves (effort : Effort) (problems : List Task) (s : Solution) : Type 0 where
  pub answers : AreAnswers effort problems s.answers
  pub report : s.report.items ≡ report_of problems s.answers
