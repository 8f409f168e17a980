-- Problems as their views show them.
use Rattle.std.specs.Prelude.{◌≡◌, ◌≢◌, ℕ, ◌<◌, ◌≤◌, length, List, [], map, All, slice_get, Some, Ok, IfSome}
use Rattle.std.specs.List.{AllPairs, sum_by}
use Rattle.std.specs.Option.{option_map_or}
use Rattle.priz_frac.specs.Narrow.{IsNarrow}
use Rattle.body_lang.specs.declared.arity.Arity.{Arity}
use Rattle.body_lang.specs.Checked.{checked}
use Rattle.body_lang.specs.Reads.{IsClosed}
use Rattle.body_lang.specs.Keeping.{NumbersHave}
use Rattle.body_lang.specs.Equations.{Sides, AreArithmetic}
use Rattle.statement_set.specs.declared.subtask.Subtask.{Subtask}
use Rattle.statement_set.specs.declared.statement.Statement.{Statement}
use Rattle.statement_set.specs.declared.given.Given.{Given}

-- the variables' names as bytes, the equations, the statements, and the goal: what is given, and what is wanted
pub record Task : Type 0 where
  pub names : List (List ℕ)
  pub equations : List Sides
  pub statements : List Statement
  pub givens : List Given
  pub wants : List ℕ

-- a problem with nothing in it
abbrev pub empty_task : Task
empty_task = record { names = []; equations = []; statements = []; givens = []; wants = [] }

-- how many variables there are
abbrev pub var_count : Task → ℕ
var_count p = length p.names

-- the given variables
abbrev pub given_vars : Task → List ℕ
given_vars p = map (λ g. g.var) p.givens

-- what a program for the subtask gives
abbrev pub results : Subtask → List ℕ
results u = u.outputs

-- the subtasks of the statement of that number
abbrev pub subtasks_of : Task → ℕ → List Subtask
subtasks_of p n = option_map_or (λ s. s.subs) (slice_get p.statements n) []

-- how many subtasks all statements have together
abbrev pub subtask_count : Task → ℕ
subtask_count p = sum_by (λ s. length s.subs) p.statements

-- no statement has a subtask
abbrev pub IsPlain : Task → Type 0
IsPlain p = All (λ s. s.subs ≡ []) p.statements

-- s is the problem's statement of that number
abbrev pub IsStatementOf : Task → ℕ → Statement → Type 0
IsStatementOf p n s = slice_get p.statements n ≡ Some s

-- each number is one of n variables
abbrev pub AreVars : ℕ → List ℕ → Type 0
AreVars n vs = All (λ v. v < n) vs

-- an equation over n variables has arithmetic on both sides, and no other variable
pub record IsEquationOver (n : ℕ) (e : Sides) : Type 0 where
  pub arithmetic : AreArithmetic e
  pub left : IsClosed n [] 0 e.left
  pub right : IsClosed n [] 0 e.right

-- a subtask over n variables has inputs, none of them twice, and outputs
pub record IsSubtaskOver (n : ℕ) (u : Subtask) : Type 0 where
  pub inputs : AreVars n u.inputs
  pub some_inputs : u.inputs ≢ []
  pub distinct : AllPairs (λ x y. x ≢ y) u.inputs
  pub outputs : AreVars n u.outputs
  pub some_outputs : u.outputs ≢ []

-- how many inputs and outputs each subtask of the statement has
abbrev pub arities : Statement → List Arity
arities s = map (λ u. record { inputs = length u.inputs; outputs = length u.outputs }) s.subs

-- the body, if there is one, takes the statement's inputs and calls its subtasks
abbrev pub IsBodyOver : Statement → Type 0
IsBodyOver s = IfSome s.body (λ b. checked (length s.inputs) (arities s) 0 b ≡ Ok tt)

-- a statement over n variables
pub record IsStatementOver (n : ℕ) (s : Statement) : Type 0 where
  pub inputs : AreVars n s.inputs
  pub subs : All (IsSubtaskOver n) s.subs
  pub output : s.output < n
  pub body : IsBodyOver s

-- the numbers of both sides are in lowest terms, and fit
abbrev pub HasNarrowSides : Sides → Type 0
HasNarrowSides e = NumbersHave IsNarrow e.left × NumbersHave IsNarrow e.right

-- so are those of the body, if there is one
abbrev pub HasNarrowBody : Statement → Type 0
HasNarrowBody s = IfSome s.body (NumbersHave IsNarrow)

-- so is the value of what is given, if there is one
abbrev pub HasNarrowValue : Given → Type 0
HasNarrowValue g = IfSome g.value IsNarrow

-- names are distinct, each number that stands for a variable is one, none is given twice, the limits are kept, and
-- fractions are in lowest terms and fit
pub record IsWellFormed (p : Task) : Type 0 where
  pub names : AllPairs (λ x y. x ≢ y) p.names
  pub few_names : var_count p ≤ 1024
  pub equations : All (IsEquationOver (var_count p)) p.equations
  pub statements : All (IsStatementOver (var_count p)) p.statements
  pub few_statements : length p.statements ≤ 4096
  pub few_subtasks : subtask_count p ≤ 255
  pub givens : AreVars (var_count p) (given_vars p)
  pub given_once : AllPairs (λ x y. x ≢ y) (given_vars p)
  pub wants : AreVars (var_count p) p.wants
  pub narrow_sides : All HasNarrowSides p.equations
  pub narrow_bodies : All HasNarrowBody p.statements
  pub narrow_values : All HasNarrowValue p.givens

-- a problem that can be solved or refuted has a variable and a want
pub record IsWhole (p : Task) : Type 0 where
  pub var : 1 ≤ var_count p
  pub want : p.wants ≢ []
