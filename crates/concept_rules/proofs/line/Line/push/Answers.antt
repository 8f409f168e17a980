use Rattle.std.proofs.Common.{◌<◌}
use Rattle.std.proofs.lemmas.List.Elements.{All-push}
use Rattle.priz_base.proofs.More.{same_members}
use Rattle.concept_rules.proofs.line.Line.push.Goals as goal

pub invariant_of-self : goal.invariant_of-self
invariant_of-self c = rw c.in_err-push.ensures.err c.self.invariant

pub invariant_of-self-2 : goal.invariant_of-self-2
invariant_of-self-2 c =
    rw c.in_ok-push.ensures.ok
    (same_members _ _ _ _ c.add.ensures c.self.invariant.0, All-push (λ n. n < 1024) _ _ c.self.invariant.1 c.requires)
