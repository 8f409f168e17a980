-- The lineages of the concepts of a file, by the numbers of concepts in it.
use Rattle.std.specs.Prelude.{◌≡◌, ℕ, List, map, reverse, length, slice_get, Some}
use Rattle.utopist_syntax.specs.FileTree.{ConceptTree}
use Rattle.concept_rules.specs.Lineage.{concept_names, lineage}

-- the names of concepts, and for each the numbers of the concepts whose items it has
pub record Lines : Type 0 where
  pub names : List (List ℕ)
  pub lines : List (List ℕ)

-- they are those of all concepts of a file, in order
pub record AreLineages (concepts : List ConceptTree) (l : Lines) : Type 0 where
  pub names : l.names ≡ concept_names concepts
  pub count : length l.lines ≡ length concepts
  pub lines :
      (n : ℕ) (c : ConceptTree) (line : List ℕ)
      → slice_get concepts n ≡ Some c → slice_get l.lines n ≡ Some line
      → map (slice_get concepts) line ≡ map Some (lineage (reverse concepts) c.name.text)
