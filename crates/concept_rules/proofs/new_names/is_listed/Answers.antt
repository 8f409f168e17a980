use Rattle.std.proofs.Common.{ap, ◌∙◌}
use Rattle.concept_rules.specs.Declarations.{is_among}
use Rattle.concept_rules.proofs.Among.{decided}
use Rattle.concept_rules.proofs.new_names.is_listed.Goals as goal

pub returns-clause-same : goal.returns-clause-same
returns-clause-same c =
    decided c.has.result _ _ c.has.ensures ∙ ap (λ t. is_among t c.args.names.now) c.text.ensures
