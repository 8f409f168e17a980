use Rattle.std.proofs.Common.{◌≡◌, ◌++◌, drop}
use Rattle.concept_rules.specs.ItemRules.{spelled_inputs}
use Rattle.concept_rules.proofs.body_rules.inputs_of.Given as goal

-- those that were seen, and those that are left
abbrev pub invariant-loop-part : goal.invariant-loop-part
invariant-loop-part l =
    spelled_inputs l.parts ≡ l.inputs ++ spelled_inputs (drop l.part-index l.parts)
