use Rattle.std.proofs.Common.{◌≡◌, drop}
use Rattle.concept_rules.specs.ConceptRules.{computes_fault}
use Rattle.concept_rules.specs.steps.Points.{AtEachExtent}
use Rattle.concept_rules.proofs.computes.check_each_compute.Given as goal

-- what is left decides
abbrev pub invariant-loop-which : goal.invariant-loop-which
invariant-loop-which l = AtEachExtent l.seen (λ f.
    computes_fault l.most f.before 0 l.computes
    ≡ computes_fault l.most f.before l.which (drop l.which l.computes))
