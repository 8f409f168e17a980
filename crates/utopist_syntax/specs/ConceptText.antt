-- The text of a concept.
use Rattle.std.specs.Prelude.{ℕ, List, [], ◌∷◌, ◌++◌, codes}
use Rattle.std.specs.List.{flat_map}
use Rattle.utopist_syntax.specs.Named.{Named}
use Rattle.utopist_syntax.specs.declared.concept.Concept.{Concept}
use Rattle.utopist_syntax.specs.declared.item.Item.{Item}
use Rattle.utopist_syntax.specs.PathText.{names_text}
use Rattle.utopist_syntax.specs.ItemText.{item_text}

-- nothing, or "is" and the parents
abbrev pub parents_text : List Named → List ℕ
parents_text [] = []
parents_text (p ∷ more) = codes " is " ++ names_text (codes ", ") (p ∷ more)

-- an item on a line of its own
abbrev pub item_line : Item → List ℕ
item_line item = codes "  " ++ (item_text item ++ codes "\n")

-- a line that opens it, a line for each item, and a line that closes it
abbrev pub concept_text : Concept → List ℕ
concept_text c =
    (codes "concept " ++ (c.name.text ++ (parents_text c.parents ++ codes " : (\n"))) ++ (flat_map item_line c.items ++ codes ");\n")
