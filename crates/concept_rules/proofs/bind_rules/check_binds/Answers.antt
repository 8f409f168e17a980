use Rattle.std.proofs.Common.{List, ℕ, [], ◌∷◌, ◌++◌, ap, sym, ◌∙◌}
use Rattle.std.proofs.lemmas.Result.{err_from_is_err_and}
use Rattle.priz_base.proofs.More.{map_more}
use Rattle.name_sets.specs.Paths.{texts}
use Rattle.utopist_syntax.specs.Named.{Named}
use Rattle.utopist_syntax.specs.declared.item.Bind.{Bind}
use Rattle.concept_rules.proofs.Binds.{bind_fails, bind_passes}
use Rattle.concept_rules.proofs.bind_rules.check_binds.Goals as goal

pub returns-in_err-check_bind-clause-rules : goal.returns-in_err-check_bind-clause-rules
returns-in_err-check_bind-clause-rules c = λ f before at here.
    let p = err_from_is_err_and c.from_residual.result c.from_residual.ensures.1 in
    rw (p.1, p.2)
    (c.loop-bind.invariant.0 f before at here
    ∙ bind_fails f.before before c.args.variables.now.kind.now c.loop-bind.paths c.args.variables.now.binds.now c.loop-bind.bind-index c.bind-item.result c.loop-bind-test.true c.bind-item.is c.in_err-check_bind.field-0.0 (c.in_err-check_bind.ensures f before at here))

pub loop-bind-preserved : goal.loop-bind-preserved
loop-bind-preserved c =
    let added = c.in_ok-add.ensures.ok ∙ ap (λ (ns : List Named). c.loop-bind.paths ++ texts ns ∷ []) c.as_slice.ensures in (
      λ f before at here.
          c.loop-bind.invariant.0 f before at here
          ∙ bind_passes f.before before c.args.variables.now.kind.now c.loop-bind.paths c.args.variables.now.binds.now c.loop-bind.bind-index c.bind-item.result c.loop-bind-test.true c.bind-item.is tt c.add.new.self (c.in_ok-check_bind.ensures f before at here) added,
      added
          ∙ ap (λ (ps : List (List (List ℕ))). ps ++ texts c.bind-item.result.left.parts ∷ []) c.loop-bind.invariant.1
          ∙ sym (map_more (λ (b : Bind). texts b.left.parts) c.args.variables.now.binds.now c.loop-bind.bind-index c.bind-item.result c.loop-bind-test.true c.bind-item.is),
    )
