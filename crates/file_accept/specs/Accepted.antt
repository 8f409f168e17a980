-- The texts that are accepted.
use Rattle.std.specs.Prelude.{◌≡◌, ℕ, List, Ok}
use Rattle.utopist_syntax.specs.FileTree.{FileTree}
use Rattle.utopist_parser.specs.Forms.{ReadsAs}
use Rattle.concept_unfold.specs.Built.{IsBuilt}
use Rattle.concept_unfold.specs.UnfoldingRules.{model_fault}

-- the text reads as this file, whose forms are built, and it breaks no rule
pub record Accepts (text : List ℕ) (f : FileTree) : Type 0 where
  pub tree : ReadsAs text f
  pub built : IsBuilt f
  pub rules : model_fault f ≡ Ok tt
