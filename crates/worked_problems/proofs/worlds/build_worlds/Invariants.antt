use Rattle.std.proofs.Common.{map, take}
use Rattle.worked_problems.specs.WorldRows.{AreWorldsOf}
use Rattle.worked_problems.proofs.worlds.build_worlds.Given as goal

abbrev pub invariant-loop-row : goal.invariant-loop-row
invariant-loop-row l = AreWorldsOf l.worlds (map (λ r. r.now) (take l.row-index l.rows))
