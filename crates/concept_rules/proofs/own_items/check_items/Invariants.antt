use Rattle.concept_rules.specs.steps.Points.{AtEachItems}
use Rattle.concept_rules.proofs.Steps.{WithinItems}
use Rattle.concept_rules.proofs.own_items.check_items.Given as goal

-- what is left decides
abbrev pub invariant-loop-place : goal.invariant-loop-place
invariant-loop-place l = AtEachItems l.current l.initial.declared (λ all before ancestors.
    WithinItems all l.current.which before l.current.here.now l.current.concepts.now
    l.current.checked.now l.declared l.place ancestors)
