use Rattle.std.proofs.Common.{take}
use Rattle.worked_problems.specs.WorldRows.{HasJust}
use Rattle.worked_problems.proofs.worlds.world_of.Given as goal

abbrev pub invariant-loop-v : goal.invariant-loop-v
invariant-loop-v l = HasJust l.world (take l.v-index l.row)
