use Rattle.std.proofs.Common.{Option, ◌∙◌, sym, ap, option_map, option_and_then}
use Rattle.utopist_syntax.specs.FileTree.{ItemTree}
use Rattle.concept_rules.specs.Declarations.{variable_of}
use Rattle.concept_rules.specs.steps.Variables.{outline}
use Rattle.concept_rules.proofs.Lookup.{variable_found, item_missing}
use Rattle.concept_rules.proofs.kinds.variable.Goals as goal

pub returns-in-Some : goal.returns-in-Some
returns-in-Some c = λ f before at here.
    let found = c.in-Some.ensures.found in
    c.variable_at.ensures ∙ variable_found f _ _ _ at _ before here _ _ found.0 found.1

pub returns-in-None : goal.returns-in-None
returns-in-None c = λ f before at here.
    sym (ap (λ (o : Option ItemTree). option_map outline (option_and_then variable_of o)) (item_missing f _ _ _ at _ before here _ c.in-None.ensures.missing))
