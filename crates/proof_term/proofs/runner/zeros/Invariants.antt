use Rattle.std.proofs.Common.{◌≡◌, pos}
use Rattle.std.specs.Prelude.{replicate}
use Rattle.priz_frac.specs.Whole.{whole}
use Rattle.proof_term.proofs.runner.zeros.Given as goal

abbrev pub invariant-loop-i : goal.invariant-loop-i
invariant-loop-i l = l.env.items ≡ replicate l._i (whole (pos 0))
