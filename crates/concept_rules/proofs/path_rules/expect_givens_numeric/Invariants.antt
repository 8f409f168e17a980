use Rattle.std.proofs.Common.{◌≡◌, drop}
use Rattle.concept_rules.specs.steps.Points.{AtEachPoint}
use Rattle.concept_rules.specs.Paths.{given_paths}
use Rattle.concept_rules.specs.PathRules.{numeric_paths}
use Rattle.concept_rules.proofs.path_rules.expect_givens_numeric.Given as goal

-- what is left decides
abbrev pub invariant-loop-given : goal.invariant-loop-given
invariant-loop-given l = AtEachPoint l.seen l.here (λ f before.
    numeric_paths f.before before (given_paths l.givens) ≡ numeric_paths f.before before (given_paths (drop l.given-index l.givens)))
