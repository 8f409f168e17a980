use Rattle.std.proofs.Common.{Option, sym, ◌∙◌, subst}
use Rattle.priz_cli.specs.declared.order.Order.{Order}
use Rattle.priz_cli.specs.Ends.{streams, Settles}
use Rattle.priz_cli.proofs.Settling.{settling, memory_settles}
use Rattle.priz_cli.proofs.top.priz.Goals as goal

pub returns-in-Ok-Some-clause-settled : goal.returns-in-Ok-Some-clause-settled
returns-in-Ok-Some-clause-settled g c =
    subst (λ (asked : Option Order). Settles asked c.work.result (g.S.Source.left c.args.source.now)) (sym c.in-Ok-Some.field-0-is ∙ c.in-Ok-Some.ensures)
    (settling c.in-Ok-Some.order c.work.result
    (streams (g.S.Source.left c.args.source.now) (g.S.Source.faults c.args.source.now) (g.K.Sink.written c.args.sink.now) (g.K.Sink.faults c.args.sink.now))
    (streams (g.S.Source.left c.work.new.source) (g.S.Source.faults c.work.new.source) (g.K.Sink.written c.work.new.sink) (g.K.Sink.faults c.work.new.sink))
    c.work.ensures.ends.leaves)

pub returns-in-Err-clause-settled : goal.returns-in-Err-clause-settled
returns-in-Err-clause-settled g c = memory_settles _ (g.S.Source.left c.args.source.now)
