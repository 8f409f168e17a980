use Rattle.std.proofs.Common.{◌≡◌, [], drop}
use Rattle.concept_rules.specs.steps.Points.{AtEachPoint}
use Rattle.concept_rules.specs.ItemRules.{new_names}
use Rattle.concept_rules.proofs.new_names.expect_new_names.Given as goal

-- what is left decides
abbrev pub invariant-loop-name : goal.invariant-loop-name
invariant-loop-name l = AtEachPoint l.seen l.here (λ f before.
    new_names before [] l.names ≡ new_names before l.others (drop l.name-index l.names))
