use Rattle.std.proofs.Common.{take}
use Rattle.term_check.specs.steps.Adding.{AddsAll}
use Rattle.term_check.proofs.scope.with_all.Given as goal

abbrev pub invariant-loop-v : goal.invariant-loop-v
invariant-loop-v l = AddsAll l.scope l.inner (take l.v-index l.vars)
