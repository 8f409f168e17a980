-- The first step of a block whose statement has no body.
use Rattle.std.specs.Prelude.{ℕ, List, [], ◌∷◌, ◌++◌, find, not, is_some, Bool, Option}
use Rattle.statement_set.specs.Problem.{Task}
use Rattle.proof_term.specs.Proof.{Steps, done, step, Subs, no_more, known, block}
use Rattle.proof_term.specs.Running.{statement_at}

abbrev mutual
  -- the statements of all steps of a block, in the order of its certificate
  pub statements_in : Steps → List ℕ
  statements_in done = []
  statements_in (step n subs more) = n ∷ (statements_in_all subs ++ statements_in more)

  -- the same for the blocks among a step's answers
  pub statements_in_all : Subs → List ℕ
  statements_in_all no_more = []
  statements_in_all (known more) = statements_in_all more
  statements_in_all (block b more) = statements_in b ++ statements_in_all more

-- whether no body was written for the statement of this number
abbrev pub lacks_body : Task → ℕ → Bool
lacks_body p n = not (is_some (statement_at p n).body)

-- the statement of the first step without a body, or none
abbrev pub first_without_body : Task → Steps → Option ℕ
first_without_body p b = find (lacks_body p) (statements_in b)
