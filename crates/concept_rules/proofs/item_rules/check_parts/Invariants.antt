use Rattle.std.proofs.Common.{◌≡◌, drop}
use Rattle.concept_rules.specs.steps.Points.{AtEachPoint}
use Rattle.concept_rules.specs.ItemRules.{parts_fault}
use Rattle.concept_rules.proofs.item_rules.check_parts.Given as goal

-- what is left decides
abbrev pub invariant-loop-part : goal.invariant-loop-part
invariant-loop-part l = AtEachPoint l.seen l.here (λ f before.
    parts_fault f.before before l.parts ≡ parts_fault f.before before (drop l.part-index l.parts))
