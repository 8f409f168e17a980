use Rattle.std.proofs.Common.{take}
use Rattle.std.specs.Prelude.{All}
use Rattle.kripke_check.specs.steps.Obeys.{Obeys}
use Rattle.kripke_check.proofs.countermodel.obeys_all.Given as goal

abbrev pub invariant-loop-n : goal.invariant-loop-n
invariant-loop-n l = All (Obeys l.worlds l.world) (take l.n l.p.statements)
