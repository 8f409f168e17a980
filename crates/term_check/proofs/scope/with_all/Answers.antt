use Rattle.term_check.proofs.Start.{adds_more, adds_end}
use Rattle.term_check.proofs.scope.with_all.Goals as goal

pub loop-v-preserved : goal.loop-v-preserved
loop-v-preserved c = adds_more c.args.vars.now c.loop-v.v-index c.v-item.result c.args.scope.now c.loop-v.inner c.add.new.self c.loop-v-test.true c.v-item.is c.loop-v.invariant c.add.ensures

pub returns : goal.returns
returns c = adds_end c.args.vars.now c.loop-v.v-index c.args.scope.now c.loop-v.inner c.loop-v-test.false c.loop-v.invariant
