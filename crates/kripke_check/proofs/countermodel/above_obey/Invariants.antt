use Rattle.std.proofs.Common.{◌↔◌, drop}
use Rattle.std.specs.Prelude.{All}
use Rattle.priz_base.specs.Sets.{IsWithin}
use Rattle.kripke_check.specs.steps.Obeys.{ObeysAll, AboveObey}
use Rattle.kripke_check.proofs.countermodel.above_obey.Given as goal

-- the rest decides
abbrev pub invariant-loop-i : goal.invariant-loop-i
invariant-loop-i l = All (λ u. IsWithin l.root u → ObeysAll l.worlds l.p u) (drop l.i l.worlds) ↔ AboveObey l.worlds l.p l.root
