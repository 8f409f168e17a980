use Rattle.std.proofs.Common.{sym, ap, ◌∙◌}
use Rattle.std.specs.Option.{option_copied, option_map}
use Rattle.body_lang.specs.View.{body_tree}
use Rattle.statement_set.specs.declared.statement.Statement.{Statement}
use Rattle.proof_term.proofs.NoCalls.{no_call}
use Rattle.proof_term.proofs.runner.value_of.Goals as goal

pub evaluate-requires : goal.evaluate-requires
evaluate-requires c =
    let its = sym (ap (λ (s : Statement). s.body) c.statement.view_is) ∙ ap (option_map body_tree) (sym c.as_ref.ensures.value ∙ ap option_copied c.unwrap-body.ensures) in
    no_call c.args.problem.now c.args.stmt c.statement-statement.result.now (body_tree c.unwrap-body.result.now) c.requires.plain c.statement-statement.ensures.which c.statement-statement.ensures.over.body its
