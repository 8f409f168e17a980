-- The problem that rows stand for.
use Rattle.std.specs.Prelude.{ℕ, List, [], map, length, None}
use Rattle.std.specs.List.{sum_by}
use Rattle.statement_set.specs.declared.subtask.Subtask.{Subtask}
use Rattle.statement_set.specs.declared.statement.Statement.{Statement}
use Rattle.statement_set.specs.Problem.{Task}
use Rattle.statement_set.specs.Worked.{is_given}
use Rattle.worked_problems.specs.declared.rows.SubtaskRow.{SubtaskRow}
use Rattle.worked_problems.specs.declared.rows.StatementRow.{StatementRow}
use Rattle.worked_problems.specs.declared.rows.ProblemRow.{ProblemRow}

-- the subtask of a row
abbrev pub row_subtask : SubtaskRow → Subtask
row_subtask u = record { inputs = u.inputs.now; outputs = u.outputs.now }

-- the statement of a row
abbrev pub row_statement : StatementRow → Statement
row_statement s = record {
  inputs = s.inputs.now;
  subs = map row_subtask s.subs.now;
  output = s.output;
  body = None;
}

-- the problem of a row
abbrev pub row_task : ProblemRow → Task
row_task p = record {
  names = map (λ n. n.now) p.names.now;
  equations = [];
  statements = map row_statement p.statements.now;
  givens = map is_given p.givens.now;
  wants = p.wants.now;
}

-- how many subtasks all statements have together
abbrev pub subtask_total : List StatementRow → ℕ
subtask_total rows = sum_by (λ s. length s.subs.now) rows
