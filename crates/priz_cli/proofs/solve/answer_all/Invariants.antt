use Rattle.std.proofs.Common.{◌≡◌, take}
use Rattle.priz_cli.specs.Reports.{AreAnswers, report_of}
use Rattle.priz_cli.proofs.solve.answer_all.Given as goal

abbrev pub invariant-loop-at : goal.invariant-loop-at
invariant-loop-at l = record {
  answers : AreAnswers l.effort (take l.at l.problems) l.answers;
  report : l.report.items ≡ report_of (take l.at l.problems) l.answers;
}
