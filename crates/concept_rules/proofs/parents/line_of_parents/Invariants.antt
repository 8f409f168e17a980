use Rattle.std.proofs.Common.{drop}
use Rattle.concept_rules.specs.steps.Extent.{Extent, Reached}
use Rattle.concept_rules.proofs.Steps.{Ancestry}
use Rattle.concept_rules.proofs.parents.line_of_parents.Given as goal

-- what is left decides
abbrev pub invariant-loop-parent : goal.invariant-loop-parent
invariant-loop-parent l =
    (f : Extent) → Reached f l.seen.concepts.now l.seen.checked.now l.seen.declared.now → Ancestry f.all f.concept l.taken f.before l.parents (drop l.parent-index l.parents)
