use Rattle.std.proofs.Common.{List, sym, ap}
use Rattle.utopist_syntax.specs.FileTree.{ItemTree}
use Rattle.concept_rules.specs.ConceptRules.{share_name}
use Rattle.concept_rules.proofs.Lines.{own_none}
use Rattle.concept_rules.proofs.Together.{none_shared}
use Rattle.concept_rules.proofs.parents.shares_name.Goals as goal

pub returns-then-has_together : goal.returns-then-has_together
returns-then-has_together c = λ f before at here.
    sym (none_shared f _ _ _ at _ before here c.args.concept c.requires (c.has_together.ensures c.if-has_together.true))

pub returns-in-None : goal.returns-in-None
returns-in-None c = λ f before at here.
    ap (λ (items : List ItemTree). share_name items before) (sym (own_none f _ _ at.all (sym c.in-None.ensures)))
