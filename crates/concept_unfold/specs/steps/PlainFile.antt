-- What no broken rule of concepts says of a file of the forms that are built.
use Rattle.std.specs.Prelude.{◌≡◌, ◌≤◌, ℕ, List, [], length, Some, slice_get}
use Rattle.utopist_syntax.specs.declared.compute.Compute.{Compute}
use Rattle.utopist_syntax.specs.FileTree.{FileTree}
use Rattle.concept_rules.specs.Paths.{given_paths}
use Rattle.concept_unfold.specs.Declarations.{all_variables, items_of}
use Rattle.concept_unfold.specs.Unfolded.{AreKnown}
use Rattle.concept_unfold.specs.steps.Plain.{ItemsFollow}

-- what is given and what is wanted are variables of the concept
abbrev pub GoalFollows : FileTree → Compute → Type 0
GoalFollows f w =
    AreKnown (all_variables (items_of f.concepts w.name.text)) (given_paths w.givens)
    × AreKnown (all_variables (items_of f.concepts w.name.text)) w.wants

-- the items of each concept follow one another, each compute statement speaks of variables, and there are so many at
-- most
pub record FileFollows (most : ℕ) (f : FileTree) : Type 0 where
  pub items : (name : List ℕ) → ItemsFollow [] (items_of f.concepts name)
  pub goals : (k : ℕ) (w : Compute) → slice_get f.computes k ≡ Some w → GoalFollows f w
  pub few : length f.computes ≤ most
