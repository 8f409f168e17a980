use Rattle.std.proofs.Common.{◌≡◌, drop}
use Rattle.std.specs.Prelude.{option_and_then}
use Rattle.std.specs.Option.{option_copied}
use Rattle.concept_rules.specs.Kinds.{kind_along}
use Rattle.concept_rules.specs.steps.Points.{AtEachExtent}
use Rattle.concept_rules.proofs.kinds.kind_along.Given as goal

-- what is left decides
abbrev pub invariant-loop-segment : goal.invariant-loop-segment
invariant-loop-segment l = AtEachExtent l.seen (λ f.
    kind_along f.before l.kind l.segments
    ≡ option_and_then (λ k. kind_along f.before k (drop l.segment-index l.segments)) (option_copied l.inside))
