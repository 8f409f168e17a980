use Rattle.std.proofs.Common.{◌↔◌, rules}
use Rattle.std.specs.Prelude.{All, IsTrue}
use Rattle.std.proofs.lemmas.List.Elements.{All-map}
use Rattle.utopist_syntax.specs.declared.item.Item.{Item}
use Rattle.utopist_syntax.specs.FileTree.{item_tree}
use Rattle.statement_set.proofs.Lists.{all_of_map}
use Rattle.concept_unfold.specs.Built.{IsBuiltItem}
use Rattle.concept_unfold.proofs.built.are_built_items.Goals as goal

pub returns : goal.returns
returns c =
    let xs = c.args.items.now in
    let each : IsTrue c.all.result ↔ All (λ (x : Item). IsBuiltItem (item_tree x)) xs = search rules in
    (λ t. All-map IsBuiltItem item_tree xs (each.0 t), λ h. each.1 (all_of_map IsBuiltItem item_tree xs h))
