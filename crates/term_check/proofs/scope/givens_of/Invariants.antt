use Rattle.std.proofs.Common.{take, [], map}
use Rattle.term_check.specs.steps.Adding.{AddsAll}
use Rattle.term_check.proofs.scope.givens_of.Given as goal

abbrev pub invariant-loop-g : goal.invariant-loop-g
invariant-loop-g l = AddsAll [] l.givens (map (λ g. g.var) (take l.g-index l.g-items))
