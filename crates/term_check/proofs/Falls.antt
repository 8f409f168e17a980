-- The parts of a block are smaller.
use Rattle.std.proofs.Common.{◌≡◌, ℕ, zero, suc, ◌<◌, List, [], ◌∷◌, length, get_or, arith, subst, sym, ap, ◌∙◌}
use Rattle.proof_term.specs.Proof.{Steps}
use Rattle.proof_term.specs.declared.step.Step.{Step}
use Rattle.proof_term.specs.declared.step.Sub.{Sub}
use Rattle.proof_term.specs.declared.step.Sub.TheVariants.{Known, Body}
use Rattle.proof_term.specs.Plain.{subs_of, steps_of, block_size, subs_size, sub_size}

size_pos : (xs : List Step) → 0 < block_size (steps_of xs)
size_pos [] = omega arith
size_pos (s ∷ xs) = omega arith

subs_fall : (xs : List Step) (i : ℕ) (d : Step) → i < length xs → subs_size (subs_of (get_or xs i d).subs) < block_size (steps_of xs)
subs_fall [] i d lt = absurd (omega arith)
subs_fall (s ∷ xs) zero d lt = omega (arith, size_pos xs)
subs_fall (s ∷ xs) (suc i) d lt = omega (arith, subs_fall xs i d (omega arith))

subs_pos : (xs : List Sub) → 0 < subs_size (subs_of xs)
subs_pos [] = omega arith
subs_pos (Known ∷ xs) = omega arith
subs_pos (Body b ∷ xs) = omega arith

sub_falls : (xs : List Sub) (i : ℕ) (d : Sub) → i < length xs → sub_size (get_or xs i d) < subs_size (subs_of xs)
sub_falls [] i d lt = absurd (omega arith)
sub_falls (Known ∷ xs) zero d lt = omega (arith, subs_pos xs)
sub_falls (Body b ∷ xs) zero d lt = omega (arith, subs_pos xs)
sub_falls (Known ∷ xs) (suc i) d lt = omega (arith, sub_falls xs i d (omega arith))
sub_falls (Body b ∷ xs) (suc i) d lt = omega (arith, sub_falls xs i d (omega arith))

pub step_falls : (b : Steps) (xs items : List Step) (i : ℕ) (s : Step) (ss : List Sub) → items ≡ xs → steps_of xs ≡ b → i < length items → s ≡ get_or items i s → ss ≡ s.subs → subs_size (subs_of ss) < block_size b
step_falls b xs items i s ss same view lt is e =
    let l : subs_size (subs_of s.subs) < block_size (steps_of items) = subst (λ (x : Step). subs_size (subs_of x.subs) < block_size (steps_of items)) (sym is) (subs_fall items i s lt) in
    let m : subs_size (subs_of ss) < block_size (steps_of items) = subst (λ x. subs_size (subs_of x) < block_size (steps_of items)) (sym e) l in
    subst (λ x. subs_size (subs_of ss) < block_size x) (ap steps_of same ∙ view) m

pub one_falls : (ss : List Sub) (i : ℕ) (s : Sub) → i < length ss → s ≡ get_or ss i s → sub_size s < subs_size (subs_of ss)
one_falls ss i s lt is = subst (λ x. sub_size x < subs_size (subs_of ss)) (sym is) (sub_falls ss i s lt)
