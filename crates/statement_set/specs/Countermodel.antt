-- Kripke models that refute a goal. G is what is given.
use Rattle.std.specs.Prelude.{◌≡◌, ℕ, List, All, Any, Contains, ◌-◌, length, slice_get, Some}
use Rattle.priz_base.specs.Sets.{IsWithin}
use Rattle.statement_set.specs.Problem.{Task, var_count, given_vars, AreVars}
use Rattle.statement_set.specs.Formula.{statement_formula}
use Rattle.statement_set.specs.Forcing.{World, forces}

-- the world holds what is given, forces the statements, and lacks a want
pub record Refutes (p : Task) (G : List ℕ) (L : List World) (w : World) : Type 0 where
  pub givens : IsWithin G w
  pub lacks : Any (λ v. ¬ Contains w v) p.wants
  pub statements : All (λ s. forces L w (statement_formula s)) p.statements

-- the worlds are sets of variables, and the last one refutes the goal
pub record IsCountermodelFrom (p : Task) (G : List ℕ) (L : List World) : Type 0 where
  pub vars : All (AreVars (var_count p)) L
  pub refuted : (w : World) × (slice_get L (length L - 1) ≡ Some w) × Refutes p G L w

-- the worlds refute the problem's own goal
abbrev pub IsCountermodel : Task → List World → Type 0
IsCountermodel p L = IsCountermodelFrom p (given_vars p) L

-- the world holds what is given, lacks a want, and is closed under the statements even if each subtask counts as solved
pub record RefutesAlone (p : Task) (G : List ℕ) (w : World) : Type 0 where
  pub vars : AreVars (var_count p) w
  pub givens : IsWithin G w
  pub lacks : Any (λ v. ¬ Contains w v) p.wants
  pub closed : All (λ s. IsWithin s.inputs w → Contains w s.output) p.statements
