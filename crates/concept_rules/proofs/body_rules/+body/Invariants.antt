use Rattle.std.proofs.Common.{◌≡◌, drop}
use Rattle.utopist_syntax.specs.View.{trees_of}
use Rattle.concept_rules.specs.BodyFault.{exprs_fault}
use Rattle.concept_rules.specs.steps.InBody.{point_in, InEachBody}
use Rattle.concept_rules.proofs.body_rules.+body.Given as goal

-- what is left decides
abbrev pub invariant-check_exprs-loop-expr : goal.invariant-check_exprs-loop-expr
invariant-check_exprs-loop-expr l = InEachBody l.at (λ items.
    exprs_fault (point_in l.at items l.around l.rounds) (trees_of l.exprs)
    ≡ exprs_fault (point_in l.at items l.around l.rounds) (trees_of (drop l.expr-index l.exprs)))
