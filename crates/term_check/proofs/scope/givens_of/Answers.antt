use Rattle.term_check.proofs.Start.{given_added, given_below, all_given}
use Rattle.term_check.proofs.scope.givens_of.Goals as goal

pub add-requires : goal.add-requires
add-requires c = given_below c.args.p.now c.givens-g-items.result.now c.loop-g.g-index c.g-item.result c.givens-g-items.ensures.list c.loop-g-test.true c.g-item.is c.givens-g-items.ensures.vars c.givens-g-items.ensures.few

pub loop-g-preserved : goal.loop-g-preserved
loop-g-preserved c = given_added c.givens-g-items.result.now c.loop-g.g-index c.g-item.result c.loop-g.givens c.add.new.self c.loop-g-test.true c.g-item.is c.loop-g.invariant c.add.ensures

pub returns : goal.returns
returns c = all_given c.args.p.now c.loop-g.givens c.givens-g-items.result.now c.loop-g.g-index c.givens-g-items.ensures.list c.loop-g-test.false c.loop-g.invariant
