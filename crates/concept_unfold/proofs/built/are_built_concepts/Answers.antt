use Rattle.std.proofs.Common.{◌↔◌, rules}
use Rattle.std.specs.Prelude.{All, IsTrue}
use Rattle.std.proofs.lemmas.List.Elements.{All-map}
use Rattle.utopist_syntax.specs.declared.concept.Concept.{Concept}
use Rattle.utopist_syntax.specs.FileTree.{concept_tree}
use Rattle.statement_set.proofs.Lists.{all_of_map}
use Rattle.concept_unfold.specs.Built.{IsBuiltConcept}
use Rattle.concept_unfold.proofs.built.are_built_concepts.Goals as goal

pub returns : goal.returns
returns c =
    let xs = c.args.concepts.now in
    let each : IsTrue c.all.result ↔ All (λ (x : Concept). IsBuiltConcept (concept_tree x)) xs = search rules in
    (λ t. All-map IsBuiltConcept concept_tree xs (each.0 t), λ h. each.1 (all_of_map IsBuiltConcept concept_tree xs h))
