use Rattle.std.proofs.Common.{◌≡◌, map, take}
use Rattle.worked_problems.specs.BlockRows.{answer_of, row_answer, row_steps}
use Rattle.worked_problems.proofs.block.+build.Given as goal

abbrev pub invariant-build_block-loop-row : goal.invariant-build_block-loop-row
invariant-build_block-loop-row l = l.block ≡ row_steps (take l.row-index l.rows)

abbrev pub invariant-build_subs-loop-row : goal.invariant-build_subs-loop-row
invariant-build_subs-loop-row l = map answer_of l.subs ≡ map row_answer (take l.row-index l.rows)
