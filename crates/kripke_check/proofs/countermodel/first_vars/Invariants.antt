use Rattle.std.proofs.Common.{◌↔◌, ◌<◌, ℕ}
use Rattle.std.specs.Prelude.{Contains}
use Rattle.kripke_check.proofs.countermodel.first_vars.Given as goal

abbrev pub invariant-loop-v : goal.invariant-loop-v
invariant-loop-v l = (v : ℕ) → Contains l.vars v ↔ (v < l.v)
