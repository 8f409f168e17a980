-- The items of a file that keeps the rules are known in each concept that has them.
use Rattle.std.proofs.Common.{◌≡◌, ℕ, List, [], Ok, ap}
use Rattle.std.specs.Prelude.{reverse, Contains}
use Rattle.utopist_syntax.specs.Named.{Named}
use Rattle.utopist_syntax.specs.declared.item.VarKind.TheVariants.{Numeric}
use Rattle.utopist_syntax.specs.FileTree.{ItemTree, ConceptTree}
use Rattle.concept_rules.specs.Lineage.{effective_items}
use Rattle.concept_rules.specs.PathRules.{numeric_kind}
use Rattle.concept_rules.specs.ConceptRules.{concepts_fault}
use Rattle.canonical_paths.specs.Scoped.{AreScoped}
use Rattle.canonical_paths.proofs.NextVariable.{leads_from_all}
use Rattle.canonical_paths.proofs.CanonicalDeclared.{effective_scoped}
use Rattle.canonical_paths.proofs.CheckedConcepts.{kept_are_scoped}
use Rattle.concept_walk.specs.KnownItems.{IsKnownItem}
use Rattle.concept_walk.proofs.PathsOfItems.{IsNumeric, turn_item, item_is_known}
use Rattle.concept_walk.proofs.LeadingItems.{LeadsToNumber}
use Rattle.concept_walk.proofs.LeadingConcepts.{kept_lead}

-- a path that leads to a number is known, where names are declared once
known_again : (concepts : List ConceptTree) (items : List ItemTree) → AreScoped (reverse items) → (names : List Named) → LeadsToNumber concepts items names → IsNumeric concepts items names
known_again concepts items scoped names l = ap (numeric_kind names) (leads_from_all items scoped concepts items names Numeric (λ i k. k) l)

-- an item of a concept is known behind its effective items
pub kept_are_known : (concepts : List ConceptTree) → concepts_fault [] concepts ≡ Ok tt → (name : List ℕ) (i : ItemTree) → Contains (effective_items (reverse concepts) name) i → IsKnownItem (reverse concepts) (effective_items (reverse concepts) name) i
kept_are_known concepts ok name i c =
    let items : List ItemTree = effective_items (reverse concepts) name in
    let scoped = effective_scoped (reverse concepts) (kept_are_scoped concepts ok) name in
    item_is_known (reverse concepts) items i
    (turn_item (LeadsToNumber (reverse concepts) items) (IsNumeric (reverse concepts) items) (known_again (reverse concepts) items scoped) i ((kept_lead concepts ok).known name i c))
