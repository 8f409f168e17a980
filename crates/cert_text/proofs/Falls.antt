-- The parts of a block are smaller.
use Rattle.std.proofs.Common.{◌≡◌, ℕ, zero, suc, ◌+◌, ◌<◌, List, [], ◌∷◌, length, get_or, arith, subst, sym, ap, ◌∙◌}
use Rattle.proof_term.specs.Proof.{Steps}
use Rattle.proof_term.specs.declared.step.Step.{Step}
use Rattle.proof_term.specs.declared.step.Sub.{Sub}
use Rattle.proof_term.specs.declared.step.Sub.TheVariants.{Known, Body}
use Rattle.proof_term.specs.Plain.{subs_of, steps_of, block_size, subs_size, sub_size}

size_pos : (xs : List Step) → 0 < block_size (steps_of xs)
size_pos [] = omega arith
size_pos (s ∷ xs) = omega arith

at_falls : (xs : List Step) (i : ℕ) (d : Step) → i < length xs → 1 + subs_size (subs_of (get_or xs i d).subs) < block_size (steps_of xs)
at_falls [] i d lt = absurd (omega arith)
at_falls (s ∷ xs) zero d lt = omega (arith, size_pos xs)
at_falls (s ∷ xs) (suc i) d lt = omega (arith, at_falls xs i d (omega arith))

subs_pos : (xs : List Sub) → 0 < subs_size (subs_of xs)
subs_pos [] = omega arith
subs_pos (Known ∷ xs) = omega arith
subs_pos (Body b ∷ xs) = omega arith

answer_falls : (xs : List Sub) (i : ℕ) (d : Sub) → i < length xs → sub_size (get_or xs i d) < subs_size (subs_of xs)
answer_falls [] i d lt = absurd (omega arith)
answer_falls (Known ∷ xs) zero d lt = omega (arith, subs_pos xs)
answer_falls (Body b ∷ xs) zero d lt = omega (arith, subs_pos xs)
answer_falls (Known ∷ xs) (suc i) d lt = omega (arith, answer_falls xs i d (omega arith))
answer_falls (Body b ∷ xs) (suc i) d lt = omega (arith, answer_falls xs i d (omega arith))

-- a step is smaller than its block
pub step_falls : (b : Steps) (xs items : List Step) (i : ℕ) (s : Step) → items ≡ xs → steps_of xs ≡ b → i < length items → s ≡ get_or items i s → 1 + subs_size (subs_of s.subs) < block_size b
step_falls b xs items i s same view lt is =
    let l : 1 + subs_size (subs_of s.subs) < block_size (steps_of items) = subst (λ (x : Step). 1 + subs_size (subs_of x.subs) < block_size (steps_of items)) (sym is) (at_falls items i s lt) in
    subst (λ x. 1 + subs_size (subs_of s.subs) < block_size x) (ap steps_of same ∙ view) l

-- one answer is smaller than all answers of a step
pub sub_falls : (ss : List Sub) (i : ℕ) (s : Sub) → i < length ss → s ≡ get_or ss i s → sub_size s < subs_size (subs_of ss)
sub_falls ss i s lt is = subst (λ x. sub_size x < subs_size (subs_of ss)) (sym is) (answer_falls ss i s lt)
