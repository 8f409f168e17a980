-- What ends a run without a value.
use Rattle.std.specs.Prelude.{ℕ}
use Rattle.body_lang.specs.declared.run_fault.RunFault.{RunFault}

-- a fault in the statement of this number, or a call that no row of a table answers
pub data Stop : Type 0 where
  fault : ℕ → RunFault → Stop
  no_row : Stop
