-- Statements that are ready to be taken.
use Rattle.std.specs.Prelude.{◌≡◌, ℕ, ◌<◌, List, [], Contains, IsSomeAnd, slice_get}
use Rattle.priz_base.specs.Sets.{IsWithin}
use Rattle.statement_set.specs.declared.statement.Statement.{Statement}
use Rattle.statement_set.specs.Problem.{Task}

-- it has no subtask, its inputs are known and its output is not
pub record IsReady (known : List ℕ) (s : Statement) : Type 0 where
  pub plain : s.subs ≡ []
  pub inputs : IsWithin s.inputs known
  pub output : ¬ Contains known s.output

-- statement n is ready
abbrev pub ReadyAt : Task → List ℕ → ℕ → Type 0
ReadyAt p known n = IsSomeAnd (slice_get p.statements n) (IsReady known)

-- the lowest number of a ready statement
pub record IsLowestReady (p : Task) (known : List ℕ) (n : ℕ) : Type 0 where
  pub ready : ReadyAt p known n
  pub lowest : (m : ℕ) → m < n → ¬ ReadyAt p known m

-- a problem, and what is known
pub record Progress : Type 0 where
  pub task : Task
  pub known : List ℕ
