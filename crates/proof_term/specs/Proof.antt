-- Proofs as nested blocks. A scope is the list of the variables that are known.
use Rattle.std.specs.Prelude.{ℕ, List, [], ◌∷◌, ◌++◌, IsSomeAnd, slice_get}
use Rattle.priz_base.specs.Sets.{IsWithin}
use Rattle.statement_set.specs.declared.subtask.Subtask.{Subtask}
use Rattle.statement_set.specs.Problem.{Task, given_vars, results}

mutual
  -- a block is its list of steps; a step has a statement's number, and an answer to each of its subtasks
  pub data Steps : Type 0 where
    done : Steps
    step : (stmt : ℕ) (subs : Subs) (more : Steps) → Steps

  -- the answers of a step: each says that the results are known, or is a block that gives them
  pub data Subs : Type 0 where
    no_more : Subs
    known : (more : Subs) → Subs
    block : (b : Steps) (more : Subs) → Subs

abbrev mutual
  -- block b gives all of R from the scope S
  pub proves : Task → List ℕ → Steps → List ℕ → Type 0
  proves p S done R = IsWithin R S
  proves p S (step n subs more) R =
      IsSomeAnd (slice_get p.statements n) (λ s. IsWithin s.inputs S × answers p S s.subs subs × proves p (s.output ∷ S) more R)

  -- each subtask has an answer: its results are in scope, or a block gives them from the scope and its inputs
  pub answers : Task → List ℕ → List Subtask → Subs → Type 0
  answers p S [] no_more = Unit {0}
  answers p S [] (known more) = ⊥
  answers p S [] (block b more) = ⊥
  answers p S (u ∷ us) no_more = ⊥
  answers p S (u ∷ us) (known more) = IsWithin (results u) S × answers p S us more
  answers p S (u ∷ us) (block b more) = proves p (u.inputs ++ S) b (results u) × answers p S us more

-- the block gives all wants from what is given
abbrev pub ProvesGoal : Task → Steps → Type 0
ProvesGoal p b = proves p (given_vars p) b p.wants

-- the block with one more step at its end
abbrev pub push : Steps → ℕ → Subs → Steps
push done n subs = step n subs done
push (step m us more) n subs = step m us (push more n subs)
