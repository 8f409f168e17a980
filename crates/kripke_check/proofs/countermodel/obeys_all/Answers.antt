use Rattle.priz_base.proofs.Loops.{all_so_far, all_refused, all_passed}
use Rattle.kripke_check.specs.steps.Obeys.{Obeys}
use Rattle.kripke_check.proofs.Words.{is_at}
use Rattle.kripke_check.proofs.countermodel.obeys_all.Goals as goal

pub loop-n-preserved : goal.loop-n-preserved
loop-n-preserved c =
    let a = is_at c.args.p.now.statements c.loop-n.n c.statement.result.now c.statement.ensures.which in
    all_so_far (Obeys c.args.worlds.now c.args.world.now) c.args.p.now.statements c.loop-n.n c.statement.result.now c.obeys.result a.0 a.1 c.obeys.ensures c.if-not-obeys.false c.loop-n.invariant

pub returns-then-not-obeys : goal.returns-then-not-obeys
returns-then-not-obeys c =
    let a = is_at c.args.p.now.statements c.loop-n.n c.statement.result.now c.statement.ensures.which in
    all_refused (Obeys c.args.worlds.now c.args.world.now) c.args.p.now.statements c.loop-n.n c.statement.result.now c.obeys.result a.0 a.1 c.obeys.ensures c.if-not-obeys.true

pub returns : goal.returns
returns c = all_passed (Obeys c.args.worlds.now c.args.world.now) c.args.p.now.statements c.loop-n.n (rw c.statements-n-end.ensures at c.loop-n-test.false) c.loop-n.invariant
