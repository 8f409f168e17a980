use Rattle.std.proofs.Common.{◌≡◌, [], take, drop}
use Rattle.concept_rules.specs.Overlap.{left_paths}
use Rattle.concept_rules.specs.BindRules.{binds_fault}
use Rattle.concept_rules.specs.steps.Points.{AtEachPoint}
use Rattle.concept_rules.proofs.bind_rules.check_binds.Given as goal

-- what is left decides, behind the left paths of what was seen
abbrev pub invariant-loop-bind : goal.invariant-loop-bind
invariant-loop-bind l =
    AtEachPoint l.seen l.here (λ f before.
    binds_fault f.before before l.variables.kind.now [] l.variables.binds.now
    ≡ binds_fault f.before before l.variables.kind.now l.paths (drop l.bind-index l.variables.binds.now))
    × (l.paths ≡ left_paths (take l.bind-index l.variables.binds.now))
