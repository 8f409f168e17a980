use Rattle.std.proofs.Common.{◌≡◌, ◌++◌, drop, map}
use Rattle.concept_rules.specs.ItemRules.{arities_of}
use Rattle.concept_rules.specs.steps.Arities.{arity_behind}
use Rattle.concept_rules.proofs.calls.sizes_of.Given as goal

-- those that were seen, and those that are left
abbrev pub invariant-loop-part : goal.invariant-loop-part
invariant-loop-part l =
    arities_of l.parts ≡ map arity_behind l.sizes ++ arities_of (drop l.part-index l.parts)
