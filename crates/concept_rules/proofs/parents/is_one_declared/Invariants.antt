use Rattle.std.proofs.Common.{◌≡◌, drop}
use Rattle.concept_rules.specs.steps.Points.{AtEachPoint}
use Rattle.std.specs.List.{list_any}
use Rattle.name_sets.specs.Paths.{texts}
use Rattle.concept_rules.specs.Declarations.{is_declared}
use Rattle.concept_rules.proofs.parents.is_one_declared.Given as goal

-- what is left decides
abbrev pub invariant-loop-name : goal.invariant-loop-name
invariant-loop-name l = AtEachPoint l.seen l.taken (λ f before.
    list_any (is_declared before) (texts l.names) ≡ list_any (is_declared before) (texts (drop l.name-index l.names)))
