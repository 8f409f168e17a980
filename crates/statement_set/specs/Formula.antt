-- Formulas of propositional logic, whose atoms are the numbers of variables.
use Rattle.std.specs.Prelude.{ℕ, List, [], ◌∷◌, ◌++◌, map}
use Rattle.statement_set.specs.declared.subtask.Subtask.{Subtask}
use Rattle.statement_set.specs.declared.statement.Statement.{Statement}
use Rattle.statement_set.specs.Problem.{results}

-- an atom, absurdity, an implication, a conjunction or a disjunction
pub data Formula : Type 0 where
  atom : (v : ℕ) → Formula
  falsum : Formula
  imp : (A B : Formula) → Formula
  and : (A B : Formula) → Formula
  or : (A B : Formula) → Formula

-- curried implications: imp(A1, imp(A2, .. imp(An, B)))
abbrev pub chain : List Formula → Formula → Formula
chain [] B = B
chain (A ∷ As) B = imp A (chain As B)

-- the variables as formulas
abbrev pub atoms : List ℕ → List Formula
atoms vs = map atom vs

-- variable v and those behind it, from the first on: and(v, and(w, ..))
abbrev pub and_more : ℕ → List ℕ → Formula
and_more v [] = atom v
and_more v (w ∷ ws) = and (atom v) (and_more w ws)

-- the conjunction of variables; that of none always holds
abbrev pub conjunction : List ℕ → Formula
conjunction [] = imp falsum falsum
conjunction (v ∷ vs) = and_more v vs

-- the inputs imply the results
abbrev pub subtask_formula : Subtask → Formula
subtask_formula u = chain (atoms u.inputs) (conjunction (results u))

-- the subtasks' formulas and the inputs imply the output
abbrev pub statement_formula : Statement → Formula
statement_formula s = chain (map subtask_formula s.subs ++ atoms s.inputs) (atom s.output)
