use Rattle.std.proofs.Common.{◌↔◌, drop}
use Rattle.proof_term.specs.Plain.{subs_of, steps_of, block_size, subs_size, sub_size}
use Rattle.term_check.specs.Separate.{IsSeparateFrom, AreSeparateFrom}
use Rattle.term_check.proofs.separation.+separation.Given as goal

-- the rest of the block decides
abbrev pub invariant-is_separate-loop-s : goal.invariant-is_separate-loop-s
invariant-is_separate-loop-s l = IsSeparateFrom l.p l.scope (steps_of (drop l.s-index l.s-items)) ↔ IsSeparateFrom l.p l.known l.b

abbrev pub invariant-are_separate-loop-i : goal.invariant-are_separate-loop-i
invariant-are_separate-loop-i l = AreSeparateFrom l.p l.scope (drop l.i l.tasks) (subs_of (drop l.i l.subs)) ↔ AreSeparateFrom l.p l.scope l.tasks (subs_of l.subs)

abbrev pub decreases-is_separate : goal.decreases-is_separate
decreases-is_separate l = block_size l.b.now

abbrev pub decreases-are_separate : goal.decreases-are_separate
decreases-are_separate l = subs_size (subs_of l.subs.now)

abbrev pub decreases-is_new : goal.decreases-is_new
decreases-is_new l = sub_size l.sub.now
