use Rattle.std.proofs.Common.{Some}
use Rattle.canonical_paths.specs.steps.Layouts.{inner_paths}
use Rattle.canonical_paths.proofs.OneVariable.{more_aliases, all_aliases}
use Rattle.canonical_paths.proofs.JoinedSides.{one_bind}
use Rattle.canonical_paths.proofs.aliases.aliases_of.Goals as goal

pub alias_of-requires-clause-next : goal.alias_of-requires-clause-next
alias_of-requires-clause-next c =
    one_bind c.args.layouts.now c.args.so_far.now c.args.concept c.args.binds.now c.loop-bind.bind-index c.bind-item.result _ c.loop-bind-test.true c.bind-item.is c.requires.next

pub loop-bind-preserved : goal.loop-bind-preserved
loop-bind-preserved c =
    λ w lists.
    more_aliases w (inner_paths w.concepts (Some c.args.concept)) c.args.binds.now c.loop-bind.bind-index c.bind-item.result _ c.loop-bind.aliases.items _ c.alias_of.result
    c.loop-bind-test.true c.bind-item.is
    (c.loop-bind.invariant w lists)
    (c.alias_of.ensures w lists)
    c.in_ok-push.ensures.items

pub returns : goal.returns
returns c =
    λ w lists.
    all_aliases w (inner_paths w.concepts (Some c.args.concept)) c.args.binds.now c.loop-bind.bind-index _ c.loop-bind-test.false (c.loop-bind.invariant w lists)
