use Rattle.std.proofs.Common.{◌∙◌, sym, ap, arith}
use Rattle.priz_base.proofs.Within.{within_end}
use Rattle.priz_base.proofs.Deciding.{never, opposite}
use Rattle.statement_set.specs.declared.statement.Statement.{Statement}
use Rattle.saturate.proofs.closure.is_ready.Goals as goal

pub known_from-requires : goal.known_from-requires
known_from-requires c = rw (← c.as_slice-inputs.ensures ∙ ap (λ (s : Statement). s.inputs) c.s.view_is) at c.requires

pub returns-then-met-inputs-clause-met : goal.returns-then-met-inputs-clause-met
returns-then-met-inputs-clause-met c = rw (c.as_slice-inputs.ensures ∙ ap (λ (s : Statement). s.inputs) c.s.view_is) at c.known_from.ensures.known

pub returns-then-met-inputs-clause-ready : goal.returns-then-met-inputs-clause-ready
returns-then-met-inputs-clause-ready c =
    let same = c.as_slice-inputs.ensures ∙ ap (λ (s : Statement). s.inputs) c.s.view_is in
    never (λ r. absurd (omega (arith, rw same at c.if-met-inputs.true, (rw same at c.known_from.ensures.all) r.inputs)))

pub returns-clause-met : goal.returns-clause-met
returns-clause-met c = rw (c.as_slice-inputs.ensures ∙ ap (λ (s : Statement). s.inputs) c.s.view_is) at c.known_from.ensures.known

pub returns-clause-ready : goal.returns-clause-ready
returns-clause-ready c =
    let same = c.as_slice-inputs.ensures ∙ ap (λ (s : Statement). s.inputs) c.s.view_is in
    let has = rw (ap (λ (s : Statement). s.output) c.s.view_is) at c.has.ensures in
    opposite c.has.result has (λ k r. r.output k) (λ no_output. record {
      plain = sym (ap (λ (s : Statement). s.subs) c.s.view_is) ∙ c.is_empty.ensures.0 c.if-not-is_empty.false;
      inputs = within_end c.args.s.now.inputs c.known_from.result c.args.known.now (rw same at c.if-met-inputs.false) (rw same at c.known_from.ensures.known);
      output = no_output;
    })
