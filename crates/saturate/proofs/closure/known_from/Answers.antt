use Rattle.priz_base.proofs.Within.{within_more, within_not}
use Rattle.saturate.proofs.closure.known_from.Goals as goal

pub returns-then-not-has-clause-all : goal.returns-then-not-has-clause-all
returns-then-not-has-clause-all c = λ w. absurd (within_not c.args.inputs.now c.looking.i c.index-inputs-i.result c.args.known.now c.looking-test.true c.index-inputs-i.is (λ k. let t = c.has.ensures.1 k in cc) w)

pub looking-preserved : goal.looking-preserved
looking-preserved c = within_more c.args.inputs.now c.looking.i c.index-inputs-i.result c.args.known.now c.looking-test.true c.index-inputs-i.is c.looking.invariant (c.has.ensures.0 c.if-not-has.false)
