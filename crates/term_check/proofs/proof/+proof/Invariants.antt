use Rattle.std.proofs.Common.{◌↔◌, drop}
use Rattle.proof_term.specs.Proof.{proves, answers}
use Rattle.proof_term.specs.Plain.{subs_of, steps_of, block_size, subs_size, sub_size}
use Rattle.term_check.proofs.proof.+proof.Given as goal

-- the rest of the block decides
abbrev pub invariant-gives-loop-s : goal.invariant-gives-loop-s
invariant-gives-loop-s l = proves l.p l.scope (steps_of (drop l.s-index l.s-items)) l.wants ↔ proves l.p l.known l.b l.wants

abbrev pub invariant-answered-loop-i : goal.invariant-answered-loop-i
invariant-answered-loop-i l = answers l.p l.scope (drop l.i l.tasks) (subs_of (drop l.i l.subs)) ↔ answers l.p l.scope l.tasks (subs_of l.subs)

abbrev pub decreases-gives : goal.decreases-gives
decreases-gives l = block_size l.b.now

abbrev pub decreases-answered : goal.decreases-answered
decreases-answered l = subs_size (subs_of l.subs.now)

abbrev pub decreases-is_answered : goal.decreases-is_answered
decreases-is_answered l = sub_size l.sub.now
