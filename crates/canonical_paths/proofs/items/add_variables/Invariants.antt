use Rattle.std.proofs.Common.{take}
use Rattle.canonical_paths.specs.steps.Ready.{TakesVariables}
use Rattle.canonical_paths.proofs.items.add_variables.Given as goal

abbrev pub invariant-loop-name : goal.invariant-loop-name
invariant-loop-name l = TakesVariables l.layouts l.fn.so_far l.so_far (take l.name-index l.variables) l.concept l.binds
