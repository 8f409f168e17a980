use Rattle.std.proofs.Common.{refl, ap, Err}
use Rattle.concept_rules.specs.declared.fault.ModelFault.{ModelFault}
use Rattle.path_limits.proofs.WithinLimits.{over, within}
use Rattle.path_limits.proofs.limits.expect_at_most.Goals as goal

pub returns-then-count-most : goal.returns-then-count-most
returns-then-count-most c = λ n e.
    rw (over n c.args.most c.args.count e c.if-count-most.true) (ap (λ (f : ModelFault). Err f) c.broken_at.ensures)

pub returns : goal.returns
returns c = λ n e. rw (within n c.args.most c.args.count e c.if-count-most.false) refl
