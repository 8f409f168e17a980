use Rattle.std.proofs.Common.{◌∙◌, ap}
use Rattle.concept_rules.specs.Declarations.{is_declared}
use Rattle.concept_rules.proofs.Bodies.{up_to_yes, up_to_own}
use Rattle.concept_rules.proofs.body_rules.is_up_to.Goals as goal

pub returns-then-is_declared : goal.returns-then-is_declared
returns-then-is_declared c = λ items b.
    up_to_yes items b.before _ _ _ b.up_to (c.is_declared.ensures b.extent b.before b.found b.here ∙ ap (is_declared b.before) c.text.ensures) c.if-is_declared.true

pub returns-else-is_declared : goal.returns-else-is_declared
returns-else-is_declared c = λ items b.
    up_to_own items b.before _ _ _ _ b.up_to (c.is_declared.ensures b.extent b.before b.found b.here ∙ ap (is_declared b.before) c.text.ensures) c.if-is_declared.false c.has_same_text.ensures
