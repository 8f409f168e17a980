use Rattle.std.proofs.Common.{◌≡◌, ◌+◌, ◌<◌, ◌++◌, drop}
use Rattle.std.specs.Prelude.{codes}
use Rattle.std.specs.Io.{StartsWith}
use Rattle.proof_term.specs.Plain.{subs_of, steps_of, block_size, subs_size, sub_size}
use Rattle.cert_text.specs.BlockText.{steps_text, subs_text}
use Rattle.cert_text.proofs.Pieces.{after_text}
use Rattle.cert_text.proofs.proof_line.+block.Given as goal

-- what is written, and the text of what is left, are the whole text
abbrev pub invariant-write_block-loop-step : goal.invariant-write_block-loop-step
invariant-write_block-loop-step l = record {
  kept : StartsWith l.out.items l.fn.out.items;
  left : l.out.items ++ steps_text (steps_of (drop l.step-index l.step-items)) ≡ l.fn.out.items ++ (codes "{" ++ steps_text l.block);
}

abbrev pub invariant-write_subs-loop-sub : goal.invariant-write_subs-loop-sub
invariant-write_subs-loop-sub l = record {
  byte : l.before < 256;
  kept : StartsWith l.out.items l.fn.out.items;
  left : l.out.items ++ after_text l.before (drop l.sub-index l.subs) ≡ l.fn.out.items ++ subs_text (subs_of l.subs);
}

abbrev pub decreases-write_block : goal.decreases-write_block
decreases-write_block l = block_size l.block.now

abbrev pub decreases-write_step : goal.decreases-write_step
decreases-write_step l = 1 + subs_size (subs_of l.step.now.subs)

abbrev pub decreases-write_subs : goal.decreases-write_subs
decreases-write_subs l = subs_size (subs_of l.subs.now)

abbrev pub decreases-write_sub : goal.decreases-write_sub
decreases-write_sub l = sub_size l.sub.now
