use Rattle.std.proofs.Common.{sym, subst, List, take}
use Rattle.std.proofs.lemmas.List.{take_all}
use Rattle.utopist_syntax.specs.Named.{Named}
use Rattle.canonical_paths.specs.steps.Ready.{TakesVariables}
use Rattle.canonical_paths.proofs.Elements.{take_next, split_index}
use Rattle.canonical_paths.proofs.NextItems.{next_variable, takes_variable, takes_none}
use Rattle.canonical_paths.proofs.items.add_variables.Goals as goal

pub loop-name-init : goal.loop-name-init
loop-name-init c = takes_none c.args.layouts.now c.args.so_far.now c.args.concept c.args.binds.now

pub add_variable-requires-clause-next : goal.add_variable-requires-clause-next
add_variable-requires-clause-next c =
    let split = split_index c.args.variables.now c.loop-name.name-index c.name-item.result _ c.loop-name-test.true c.name-item.is in
    next_variable c.args.layouts.now c.args.so_far.now c.loop-name.so_far c.args.variables.now (take c.loop-name.name-index c.args.variables.now) split.0 c.name-item.result c.args.concept c.args.binds.now split.1
    c.requires.next c.loop-name.invariant

pub loop-name-preserved : goal.loop-name-preserved
loop-name-preserved c =
    subst (λ (ns : List Named). TakesVariables c.args.layouts.now c.args.so_far.now c.add_variable.new.so_far ns c.args.concept c.args.binds.now)
    (sym (take_next c.args.variables.now c.loop-name.name-index c.name-item.result _ c.loop-name-test.true c.name-item.is))
    (takes_variable c.args.layouts.now c.args.so_far.now c.loop-name.so_far c.add_variable.new.so_far (take c.loop-name.name-index c.args.variables.now) c.name-item.result c.args.concept c.args.binds.now c.loop-name.invariant c.in_ok-add_variable.ensures)

pub returns : goal.returns
returns c =
    subst (λ (ns : List Named). TakesVariables c.args.layouts.now c.args.so_far.now c.loop-name.so_far ns c.args.concept c.args.binds.now)
    (take_all c.loop-name.name-index c.args.variables.now c.loop-name-test.false)
    c.loop-name.invariant
