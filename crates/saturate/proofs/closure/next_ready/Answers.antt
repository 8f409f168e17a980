use Rattle.priz_base.proofs.Deciding.{not_so}
use Rattle.saturate.proofs.Fronts.{met_more}
use Rattle.saturate.proofs.Tried.{none_to_here, none_at_all}
use Rattle.saturate.proofs.closure.next_ready.Goals as goal

pub returns-then-is_ready-clause-met : goal.returns-then-is_ready-clause-met
returns-then-is_ready-clause-met c = met_more c.args.p.now.statements c.args.known.now c.loop-n.met c.loop-n.n c.statement.result.now c.is_ready.new.met c.loop-n.invariant.0 c.statement.ensures.which c.is_ready.ensures.met

pub loop-n-preserved : goal.loop-n-preserved
loop-n-preserved c = (
  met_more c.args.p.now.statements c.args.known.now c.loop-n.met c.loop-n.n c.statement.result.now c.is_ready.new.met c.loop-n.invariant.0 c.statement.ensures.which c.is_ready.ensures.met,
  none_to_here c.args.p.now c.args.known.now c.loop-n.n c.statement.result.now c.statement.ensures.which (not_so c.is_ready.result c.is_ready.ensures.ready c.if-is_ready.false) c.loop-n.invariant.1,
)

pub returns-clause-which : goal.returns-clause-which
returns-clause-which c = none_at_all c.args.p.now c.args.known.now c.loop-n.n (rw c.statements-n-end.ensures at c.loop-n-test.false) c.loop-n.invariant.1
