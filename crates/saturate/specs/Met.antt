-- What is remembered of the inputs that were looked at.
use Rattle.std.specs.Prelude.{◌≡◌, ℕ, List, Some, length, take, get_or, slice_get}
use Rattle.priz_base.specs.Sets.{IsWithin}
use Rattle.statement_set.specs.declared.statement.Statement.{Statement}

-- for each statement a number of inputs, from the first on, which are known
pub record AreMet (statements : List Statement) (known met : List ℕ) : Type 0 where
  pub size : length met ≡ length statements
  pub front : (n : ℕ) (s : Statement) → slice_get statements n ≡ Some s → IsWithin (take (get_or met n 0) s.inputs) known
