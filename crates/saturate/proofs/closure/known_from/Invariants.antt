use Rattle.std.proofs.Common.{length, take, ◌-◌}
use Rattle.priz_base.specs.Sets.{IsWithin}
use Rattle.saturate.proofs.closure.known_from.Given as goal

abbrev pub invariant-looking : goal.invariant-looking
invariant-looking l = IsWithin (take l.i l.inputs) l.known

abbrev pub decreases-looking : goal.decreases-looking
decreases-looking l = length l.inputs - l.i
