use Rattle.std.proofs.Common.{◌≡◌, drop}
use Rattle.concept_rules.specs.steps.Points.{AtEachPoint}
use Rattle.concept_rules.specs.PathRules.{numeric_paths}
use Rattle.concept_rules.proofs.path_rules.expect_all_numeric.Given as goal

-- what is left decides
abbrev pub invariant-loop-path : goal.invariant-loop-path
invariant-loop-path l = AtEachPoint l.seen l.here (λ f before.
    numeric_paths f.before before l.paths ≡ numeric_paths f.before before (drop l.path-index l.paths))
