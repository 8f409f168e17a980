use Rattle.std.proofs.Common.{◌↔◌, ℕ, take}
use Rattle.std.specs.Prelude.{Contains}
use Rattle.answer_core.proofs.search.set_of.Given as goal

abbrev pub invariant-loop-var : goal.invariant-loop-var
invariant-loop-var l = (n : ℕ) → Contains l.set n ↔ Contains (take l.var-index l.vars) n
