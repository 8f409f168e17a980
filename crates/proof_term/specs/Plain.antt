-- A block as its plain tree.
use Rattle.std.specs.Prelude.{ℕ, ◌+◌, List, [], ◌∷◌}
use Rattle.proof_term.specs.Proof.{Steps, done, step, Subs, no_more, known, block}
use Rattle.proof_term.specs.declared.step.Step.{Step}
use Rattle.proof_term.specs.declared.step.Sub.{Sub}
use Rattle.proof_term.specs.declared.step.Sub.TheVariants.{Known, Body}

-- the answers of a step
abbrev pub subs_of : List Sub → Subs
subs_of [] = no_more
subs_of (Known ∷ more) = known (subs_of more)
subs_of (Body b ∷ more) = block b (subs_of more)

-- the steps of a block
abbrev pub steps_of : List Step → Steps
steps_of [] = done
steps_of (s ∷ more) = step s.stmt (subs_of s.subs) (steps_of more)

abbrev mutual
  -- the number of nodes of a block; it is no count of steps
  pub block_size : Steps → ℕ
  block_size done = 1
  block_size (step n subs more) = 1 + subs_size subs + block_size more

  -- the number of nodes of a step's answers
  pub subs_size : Subs → ℕ
  subs_size no_more = 1
  subs_size (known more) = 1 + subs_size more
  subs_size (block b more) = 1 + block_size b + subs_size more

-- the number of nodes of one answer
abbrev pub sub_size : Sub → ℕ
sub_size Known = 1
sub_size (Body b) = 1 + block_size b
