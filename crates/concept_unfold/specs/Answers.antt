-- What unfolding answers.
use Rattle.std.specs.Prelude.{◌≡◌, Result, Ok, Err}
use Rattle.utopist_syntax.specs.declared.compute.Compute.{Compute}
use Rattle.utopist_syntax.specs.FileTree.{FileTree}
use Rattle.statement_set.specs.Problem.{Task}
use Rattle.concept_rules.specs.declared.fault.UnfoldFault.{UnfoldFault}
use Rattle.concept_rules.specs.Checks.{Checks}
use Rattle.concept_unfold.specs.UnfoldingRules.{unfolding_fault}
use Rattle.concept_unfold.specs.Unfolded.{problem_of}

-- the problem of a compute statement where no rule of unfolding fails, and else the first that does
abbrev pub UnfoldOf : FileTree → Compute → Result Task UnfoldFault → Type 0
UnfoldOf f c (Ok p) = (unfolding_fault f c ≡ Ok tt) × (p ≡ problem_of f c)
UnfoldOf f c (Err e) = Checks {X = Task} (unfolding_fault f c) (Err e)
