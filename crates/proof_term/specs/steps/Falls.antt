-- A nested block has fewer nodes than the block around it.
use Rattle.std.specs.Prelude.{◌≤◌, max, List, [], ◌∷◌}
use Rattle.std.proofs.Common.{arith}
use denote.Param.Weighed.{most}
use Rattle.proof_term.specs.declared.step.Step.{Step}
use Rattle.proof_term.specs.declared.step.Sub.{Sub}
use Rattle.proof_term.specs.declared.step.Sub.TheVariants.{Known, Body}
use Rattle.proof_term.specs.declared.block.Block.TheDeep.{deep-Sub, deep-Step}
use Rattle.proof_term.specs.Plain.{subs_of, steps_of, block_size, subs_size}

-- no answer of a step has more nodes than all together
subs_below : (xs : List Sub) → most deep-Sub xs ≤ subs_size (subs_of xs)
subs_below [] = omega arith
subs_below (Known ∷ xs) = omega (arith, subs_below xs)
subs_below (Body b ∷ xs) = omega (arith, subs_below xs)

-- no step's part has more nodes than the block
pub size_falls : (xs : List Step) → max (most deep-Step xs) 0 ≤ block_size (steps_of xs)
size_falls [] = omega arith
size_falls (s ∷ xs) = omega (arith, subs_below s.subs, size_falls xs)
