-- What it takes to force formulas, without formulas: what the members of worlds are asked for.
use Rattle.std.specs.Prelude.{List, All, Contains}
use Rattle.priz_base.specs.Sets.{IsWithin}
use Rattle.statement_set.specs.declared.subtask.Subtask.{Subtask}
use Rattle.statement_set.specs.StatementTree.{StatementTree}
use Rattle.statement_set.specs.Problem.{Task, results}
use Rattle.statement_set.specs.Forcing.{World}

-- if world u is above world w and has the subtask's inputs, it has the results
abbrev pub Keeps : World → Subtask → World → Type 0
Keeps w t u = IsWithin w u → IsWithin t.inputs u → IsWithin (results t) u

-- each world above w keeps the subtask
abbrev pub ForcesSubtask : List World → World → Subtask → Type 0
ForcesSubtask L w t = All (Keeps w t) L

-- if the world has the statement's inputs and forces its subtasks, it has the output
abbrev pub Obeys : List World → World → StatementTree → Type 0
Obeys L w s = IsWithin s.inputs w → All (ForcesSubtask L w) s.subs → Contains w s.output

-- it obeys every statement
abbrev pub ObeysAll : List World → Task → World → Type 0
ObeysAll L p w = All (Obeys L w) p.statements

-- each world above w obeys every statement
abbrev pub AboveObey : List World → Task → World → Type 0
AboveObey L p w = All (λ u. IsWithin w u → ObeysAll L p u) L

-- both have the same members
abbrev pub AreSame : World → World → Type 0
AreSame w u = IsWithin w u × IsWithin u w
