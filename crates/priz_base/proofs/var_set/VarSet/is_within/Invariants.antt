use Rattle.std.proofs.Common.{ℕ, ◌<◌}
use Rattle.priz_base.proofs.Words.{WordWithin}
use Rattle.priz_base.proofs.var_set.VarSet.is_within.Given as goal

abbrev pub invariant-loop-i : goal.invariant-loop-i
invariant-loop-i l = (k : ℕ) → k < l.i → WordWithin l.self-inside.words l.other-inside.words k
