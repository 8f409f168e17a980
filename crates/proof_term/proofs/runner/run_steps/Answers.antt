use Rattle.std.proofs.Common.{◌∙◌}
use Rattle.proof_term.proofs.RunningSteps.{bodies_from, run_on}
use Rattle.proof_term.proofs.runner.run_steps.Goals as goal

pub run_step-requires-clause-body : goal.run_step-requires-clause-body
run_step-requires-clause-body c = (bodies_from c.args.problem.now c.args.steps.now c.loop-step.step-index c.step-item.result c.loop-step-test.true c.step-item.is c.loop-step.invariant.bodies).0

pub loop-step-preserved : goal.loop-step-preserved
loop-step-preserved c =
    let behind = bodies_from c.args.problem.now c.args.steps.now c.loop-step.step-index c.step-item.result c.loop-step-test.true c.step-item.is c.loop-step.invariant.bodies in
    record {
      rest = c.loop-step.invariant.rest ∙ run_on c.args.problem.now c.args.steps.now c.loop-step.step-index c.step-item.result c.loop-step-test.true c.step-item.is c.loop-step.env c.run_step.new.env c.loop-step.left c.in_ok-left.left (c.in_ok-left.ensures.next _);
      bodies = behind.1;
      room = c.run_step.ensures.room ∙ c.loop-step.invariant.room;
    }
