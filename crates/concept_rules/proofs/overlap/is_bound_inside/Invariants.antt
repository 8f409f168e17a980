use Rattle.std.proofs.Common.{◌≡◌, false, drop}
use Rattle.std.specs.Option.{option_copied, option_map_or}
use Rattle.concept_rules.specs.Overlap.{is_bound_inside}
use Rattle.concept_rules.specs.steps.Points.{AtEachExtent}
use Rattle.concept_rules.proofs.overlap.is_bound_inside.Given as goal

-- what is left decides
abbrev pub invariant-loop-i : goal.invariant-loop-i
invariant-loop-i l = AtEachExtent l.seen (λ f.
    is_bound_inside f.before l.kind l.left
    ≡ option_map_or (λ k. is_bound_inside f.before k (drop l.i l.left)) (option_copied l.inside) false)
