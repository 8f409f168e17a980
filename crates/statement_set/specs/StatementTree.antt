-- Statements as plain records.
use Rattle.std.specs.Prelude.{ℕ, List, Option}
use Rattle.body_lang.specs.BodyTree.{BodyTree}
use Rattle.statement_set.specs.declared.subtask.Subtask.{Subtask}

-- the output from the inputs and from programs for the subtasks, and the body that says how, if there is one
pub record StatementTree : Type 0 where
  pub inputs : List ℕ
  pub subs : List Subtask
  pub output : ℕ
  pub body : Option BodyTree
