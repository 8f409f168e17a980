use Rattle.std.proofs.Common.{◌∙◌, sym}
use Rattle.concept_rules.proofs.Outlines.{path_kind}
use Rattle.concept_rules.proofs.kinds.kind_of_path.Goals as goal

pub returns-in-Some : goal.returns-in-Some
returns-in-Some c = λ f before at here.
    c.kind_along.ensures f at
    ∙ sym (path_kind f.before before c.args.path.now c.first-item.result c.in-len1-up.len_at_least c.first-item.is _ c.text.ensures _ (c.in-Some.ensures f before at here))

pub returns-in-None : goal.returns-in-None
returns-in-None c = λ f before at here.
    sym (path_kind f.before before c.args.path.now c.first-item.result c.in-len1-up.len_at_least c.first-item.is _ c.text.ensures _ (c.in-None.ensures f before at here))
