-- Layouts of the first concepts of a file, by the concepts' numbers, as far as they are reached.
use Rattle.std.specs.Prelude.{◌≡◌, ◌<◌, ℕ, List, Contains, Some, reverse, length, slice_get}
use Rattle.utopist_syntax.specs.FileTree.{ConceptTree}
use Rattle.concept_rules.specs.Lineage.{concept_names}
use Rattle.canonical_paths.specs.PathNames.{PathNames}
use Rattle.canonical_paths.specs.Tables.{IsTable}
use Rattle.canonical_paths.specs.LaidOut.{LaidOut}
use Rattle.canonical_paths.specs.Components.{declared_in, canonical_in}
use Rattle.canonical_paths.specs.steps.Layouts.{AreLayouts}
use Rattle.canonical_paths.specs.steps.PathLists.{AreClosed}
use Rattle.canonical_paths.specs.steps.Kinds.{AreTyped}
use Rattle.canonical_paths.specs.steps.Ready.{AreSmall}

-- the layouts are those of lists of paths, which for what is reached are its declared paths, and
-- their tables name the canonical paths of these
pub record HaveAllLayouts
    (all : List ConceptTree) (reached : List ℕ) (laid : List LaidOut) : Type 0 where
  pub lists : List (List PathNames)
  pub count : length lists ≡ length laid
  pub layouts : AreLayouts lists laid
  pub paths :
      (n : ℕ) (c : ConceptTree)
      → Contains reached n → n < length laid → slice_get all n ≡ Some c
      → slice_get lists n ≡ Some (declared_in all c)
  pub tables :
      (n : ℕ) (c : ConceptTree) (l : LaidOut)
      → Contains reached n → slice_get all n ≡ Some c → slice_get laid n ≡ Some l
      → IsTable (canonical_in all c) (declared_in all c) l.table
  pub typed : AreTyped (concept_names all) (reverse all) laid
  pub small : AreSmall laid
  pub closed : AreClosed laid
