use Rattle.std.proofs.Common.{◌≡◌, take}
use Rattle.name_sets.specs.Paths.{texts}
use Rattle.concept_rules.specs.steps.DeclaredNames.{AreNewNames, HasMore}
use Rattle.concept_rules.proofs.own_items.declare_all.Given as goal

-- those that were seen are declared too, and nothing else is bound
abbrev pub invariant-loop-name : goal.invariant-loop-name
invariant-loop-name l =
    (AreNewNames l.initial.declared l.declaration.concept (texts l.names)
    → HasMore l.initial.declared l.declared l.declaration.concept l.declaration.item (texts (take l.name-index l.names)))
    × (l.declared.bound ≡ l.initial.declared.bound)
