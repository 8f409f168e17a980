-- Items whose paths are known.
use Rattle.std.specs.Prelude.{◌≡◌, List, Ok, ⊤}
use Rattle.utopist_syntax.specs.FileTree.{ItemTree, var, eq, rel, ConceptTree}
use Rattle.concept_rules.specs.PathRules.{numeric_path}
use Rattle.concept_rules.specs.ItemRules.{side_fault, parts_fault, body_fault}

-- what the rules of concepts leave of an item: its paths are known where it is an item, and its body
-- has no fault
abbrev pub IsKnownItem : List ConceptTree → List ItemTree → ItemTree → Type 0
IsKnownItem concepts items (var names kind binds) = ⊤
IsKnownItem concepts items (eq left right) =
    (side_fault concepts items left ≡ Ok tt) × (side_fault concepts items right ≡ Ok tt)
IsKnownItem concepts items (rel name parts output body) =
    (parts_fault concepts items parts ≡ Ok tt)
    × (numeric_path concepts items output.parts ≡ Ok tt)
    × ((before : List ItemTree) × (body_fault before parts body ≡ Ok tt))
