-- The concepts whose items a concept has: its ancestors, in the order of the parents and depth first,
-- each once, and itself behind them.
use Rattle.std.specs.Prelude.{ℕ, if◌then◌else◌, List, [], ◌∷◌, ◌++◌, map, fold}
use Rattle.std.specs.Str.{bytes_eq}
use Rattle.std.specs.List.{flat_map}
use Rattle.utopist_syntax.specs.Named.{Named}
use Rattle.utopist_syntax.specs.FileTree.{ItemTree, ConceptTree}
use Rattle.concept_rules.specs.Declarations.{is_among}

-- the names of concepts
abbrev pub concept_names : List ConceptTree → List (List ℕ)
concept_names cs = map (λ c. c.name.text) cs

-- these concepts and one more, unless it is one of them
abbrev pub take_concept : List ConceptTree → ConceptTree → List ConceptTree
take_concept taken c = if is_among c.name.text (concept_names taken) then taken else taken ++ c ∷ []

-- the concepts that parents bring, one parent behind the other, where each has this line
abbrev pub take_parent : (List ℕ → List ConceptTree) → List ConceptTree → Named → List ConceptTree
take_parent line taken parent = fold take_concept taken (line parent.text)

-- the concept of this name behind its ancestors, among concepts of which the latest stands first;
-- none where there is no such concept
abbrev pub lineage : List ConceptTree → List ℕ → List ConceptTree
lineage [] name = []
lineage (c ∷ earlier) name =
    if bytes_eq c.name.text name then fold (take_parent (lineage earlier)) [] c.parents ++ c ∷ []
    else lineage earlier name

-- the items of concepts, one concept behind the other
abbrev pub all_items : List ConceptTree → List ItemTree
all_items cs = flat_map (λ c. c.items) cs

-- the effective items of the concept of this name
abbrev pub effective_items : List ConceptTree → List ℕ → List ItemTree
effective_items concepts name = all_items (lineage concepts name)

-- the ancestors of a concept with these parents
abbrev pub ancestors : List ConceptTree → List Named → List ConceptTree
ancestors earlier parents = fold (take_parent (lineage earlier)) [] parents

-- the items that it inherits, which stand before its own
abbrev pub inherited_items : List ConceptTree → List Named → List ItemTree
inherited_items earlier parents = all_items (ancestors earlier parents)
