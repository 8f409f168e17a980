use Rattle.std.proofs.Common.{◌≡◌, drop, map}
use Rattle.concept_rules.specs.steps.Points.{AtEachPoint}
use Rattle.utopist_syntax.specs.FileTree.{item_tree}
use Rattle.concept_rules.specs.ConceptRules.{share_name}
use Rattle.concept_rules.proofs.parents.items_share_name.Given as goal

-- what is left decides
abbrev pub invariant-loop-item : goal.invariant-loop-item
invariant-loop-item l = AtEachPoint l.seen l.taken (λ f before.
    share_name (map item_tree l.items) before ≡ share_name (map item_tree (drop l.item-index l.items)) before)
