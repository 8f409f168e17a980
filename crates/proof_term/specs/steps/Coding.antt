-- A plain tree as a tree of numbers, which gives it back. Rattle asks for this of a model's value that holds itself.
use Rattle.std.specs.Prelude.{◌≡◌, refl}
use Rattle.std.proofs.Common.{ap, sym, ◌∙◌}
use base.Stored.{Gv, gnil, gnum, gcons, Coded}
use Rattle.proof_term.specs.Proof.{Steps, done, step, Subs, no_more, known, block}

abbrev mutual
  -- a block as a tree of numbers
  pub code_steps : Steps → Gv
  code_steps done = gnil
  code_steps (step n subs more) = gcons (gnum n) (gcons (code_subs subs) (code_steps more))

  -- answers as a tree of numbers
  pub code_subs : Subs → Gv
  code_subs no_more = gnil
  code_subs (known more) = gcons gnil (code_subs more)
  code_subs (block b more) = gcons (gcons (code_steps b) gnil) (code_subs more)

abbrev mutual
  -- the block that a tree of numbers stands for
  pub steps_back : Gv → Steps
  steps_back gnil = done
  steps_back (gnum n) = done
  steps_back (gcons gnil b) = done
  steps_back (gcons (gcons a c) b) = done
  steps_back (gcons (gnum n) gnil) = done
  steps_back (gcons (gnum n) (gnum m)) = done
  steps_back (gcons (gnum n) (gcons a b)) = step n (subs_back a) (steps_back b)

  -- the answers that a tree of numbers stands for
  pub subs_back : Gv → Subs
  subs_back gnil = no_more
  subs_back (gnum n) = no_more
  subs_back (gcons gnil b) = known (subs_back b)
  subs_back (gcons (gnum n) b) = no_more
  subs_back (gcons (gcons a c) b) = block (steps_back a) (subs_back b)

mutual
  -- a block comes back
  pub steps_are_back : (b : Steps) → steps_back (code_steps b) ≡ b
  steps_are_back done = refl
  steps_are_back (step n subs more) = ap (λ s. step n s (steps_back (code_steps more))) (subs_are_back subs) ∙ ap (step n subs) (steps_are_back more)

  -- answers come back
  pub subs_are_back : (s : Subs) → subs_back (code_subs s) ≡ s
  subs_are_back no_more = refl
  subs_are_back (known more) = ap known (subs_are_back more)
  subs_are_back (block b more) = ap (λ c. block c (subs_back (code_subs more))) (steps_are_back b) ∙ ap (block b) (subs_are_back more)

-- blocks can be told apart by their codes
abbrev pub coded_steps : Coded Steps
coded_steps = record { code = code_steps; inj = λ x y p. sym (steps_are_back x) ∙ ap steps_back p ∙ steps_are_back y }
