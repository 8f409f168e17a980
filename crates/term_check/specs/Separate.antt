-- Proofs in which the inputs of each subtask are new.
use Rattle.std.specs.Prelude.{ℕ, List, [], ◌∷◌, ◌++◌, All, Contains, IsSomeAnd, slice_get}
use Rattle.statement_set.specs.declared.subtask.Subtask.{Subtask}
use Rattle.statement_set.specs.Problem.{Task, given_vars}
use Rattle.proof_term.specs.Proof.{Steps, done, step, Subs, no_more, known, block}

-- none of the variables is in scope
abbrev pub AreNew : List ℕ → List ℕ → Type 0
AreNew vs S = All (λ v. ¬ Contains S v) vs

abbrev mutual
  -- from the scope S: at each subtask of each step, at any depth, no input of the subtask is in scope; the scope grows
  -- as in a proof
  pub IsSeparateFrom : Task → List ℕ → Steps → Type 0
  IsSeparateFrom p S done = Unit {0}
  IsSeparateFrom p S (step n subs more) =
      IsSomeAnd (slice_get p.statements n) (λ s. AreSeparateFrom p S s.subs subs × IsSeparateFrom p (s.output ∷ S) more)

  -- the same for the subtasks of a step and their answers, of which each has one
  pub AreSeparateFrom : Task → List ℕ → List Subtask → Subs → Type 0
  AreSeparateFrom p S [] no_more = Unit {0}
  AreSeparateFrom p S [] (known more) = ⊥
  AreSeparateFrom p S [] (block b more) = ⊥
  AreSeparateFrom p S (u ∷ us) no_more = ⊥
  AreSeparateFrom p S (u ∷ us) (known more) = AreNew u.inputs S × AreSeparateFrom p S us more
  AreSeparateFrom p S (u ∷ us) (block b more) =
      AreNew u.inputs S × IsSeparateFrom p (u.inputs ++ S) b × AreSeparateFrom p S us more

-- a block is separate from what is given
abbrev pub IsSeparate : Task → Steps → Type 0
IsSeparate p b = IsSeparateFrom p (given_vars p) b
