use Rattle.priz_cli.proofs.Answered.{answered_more}
use Rattle.priz_cli.proofs.solve.answer_all.Goals as goal

pub loop-at-preserved : goal.loop-at-preserved
loop-at-preserved c =
    let more =
    answered_more c.args.effort.now c.args.problems.now c.loop-at.at c.index-problems-at.result c.loop-at.answers c.push.new.self c.in_ok-answer.answer c.loop-at.report.items c.render.new.out.items
    c.loop-at-test.true c.index-problems-at.is c.loop-at.invariant.answers c.loop-at.invariant.report c.in_ok-answer.ensures c.in_ok-push.ensures.ok c.in_ok-render.ensures in
    record { answers = more.0; report = more.1 }
