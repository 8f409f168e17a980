use Rattle.std.proofs.Common.{arith}
use Rattle.cert_text.proofs.Falls.{step_falls, sub_falls}
use Rattle.cert_text.proofs.proof_line.+block.Goals as goal

pub write_block-write_step-requires : goal.write_block-write_step-requires
write_block-write_step-requires t c =
    (let l = step_falls c.args.block.now c.block.inside.steps c.as_slice-step-items.result.now c.loop-step.step-index c.step-item.result c.as_slice-step-items.ensures c.block.view_is c.loop-step-test.true c.step-item.is in omega (arith, l, c.decreases), tt)

pub write_subs-write_sub-requires : goal.write_subs-write_sub-requires
write_subs-write_sub-requires t c =
    (let l = sub_falls c.args.subs.now c.loop-sub.sub-index c.sub-item.result c.loop-sub-test.true c.sub-item.is in omega (arith, l, c.decreases), tt)
