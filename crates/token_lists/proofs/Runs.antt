-- The longest front of a class of characters.
use Rattle.std.proofs.Common.{◌≡◌, ℕ, Bool, true, false, List, [], ◌∷◌, ◌++◌, refl, ap}
use Rattle.std.proofs.lemmas.Bool.{and_from}
use Rattle.utopist_lexer.specs.Cutting.{IsRun}

-- these characters, cut behind the longest front that passes
pub record Run (p : ℕ → Bool) (cs : List ℕ) : Type 0 where
  pub front : List ℕ
  pub rest : List ℕ
  pub split : cs ≡ front ++ rest
  pub run : IsRun p front rest

-- one more character in front, by whether it passes
run_more : (p : ℕ → Bool) (c : ℕ) (cs : List ℕ) (b : Bool) → p c ≡ b → Run p cs → Run p (c ∷ cs)
run_more p c cs true e r = record { front = c ∷ r.front; rest = r.rest; split = ap (λ (l : List ℕ). c ∷ l) r.split; run = record { passes = and_from _ _ e r.run.passes; stops = r.run.stops } }
run_more p c cs false e r = record { front = []; rest = c ∷ cs; split = refl; run = record { passes = refl; stops = e } }

pub run_of : (p : ℕ → Bool) (cs : List ℕ) → Run p cs
run_of p [] = record { front = []; rest = []; split = refl; run = record { passes = refl; stops = tt } }
run_of p (c ∷ cs) = run_more p c cs (p c) refl (run_of p cs)
