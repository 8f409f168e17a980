use Rattle.std.proofs.Common.{ap, ◌∙◌}
use Rattle.worked_problems.specs.BlockRows.{answers_from}
use Rattle.worked_problems.proofs.BlockTrees.{answers_are, steps_more}
use Rattle.worked_problems.proofs.block.+build.Goals as goal

pub build_block-loop-row-preserved : goal.build_block-loop-row-preserved
build_block-loop-row-preserved t c =
    steps_more c.args.rows.now c.loop-row.row-index _ c.loop-row.block c.push.new.self c.in_ok-subs.subs c.loop-row-test.true c.loop-row.invariant c.in_ok-push.ensures.ok (answers_are c.in_ok-subs.subs ∙ ap answers_from c.in_ok-subs.ensures)
