use Rattle.std.proofs.Common.{◌∙◌}
use Rattle.concept_rules.proofs.Lookup.{found_decides}
use Rattle.concept_rules.proofs.kinds.is_declared.Goals as goal

pub returns : goal.returns
returns c = λ f before at here. c.is_some.ensures ∙ found_decides f _ _ _ at _ before here _ c.find.result c.find.ensures.found c.find.ensures.missing
