-- The number at the front.
use Rattle.std.proofs.Common.{◌≡◌, ℕ, true, List, ◌∷◌, refl, inl, inr, ⊎_elim}
use Rattle.std.specs.Prelude.{pos}
use Rattle.std.specs.Char.{is_ascii_digit}
use Rattle.std.proofs.lemmas.Bool.{cases_lt}
use Rattle.utopist_lexer.specs.declared.classes.Class.TheVariants as classes
use Rattle.utopist_lexer.specs.declared.token.Kind.TheVariants as kinds
use Rattle.utopist_lexer.specs.declared.fault.LexKind.TheVariants as fault
use Rattle.utopist_lexer.specs.Characters.{has}
use Rattle.utopist_lexer.specs.Lexical.{value_of, IsLongest, IsFree, max_number}
use Rattle.utopist_lexer.specs.Faults.{Front}
use Rattle.utopist_lexer.proofs.Fronts.{number_front, number_longest}
use Rattle.token_lists.proofs.Runs.{Run, run_of}
use Rattle.token_lists.proofs.FrontTokens.{HasFront, free_or_not, in_bounds}

module _ (c : ℕ) (cs : List ℕ) (starts : is_ascii_digit c ≡ true) (r : Run (has classes.Digits) (c ∷ cs)) where
  longest : IsLongest (kinds.Number (pos (value_of r.front))) r.front r.rest
  longest = record { spelled = (number_front c cs r.front r.rest starts r.split r.run, refl); longest = number_longest c cs r.front r.rest starts r.split r.run }

  abbrev front : Front (c ∷ cs)
  front = record { kind = kinds.Number (pos (value_of r.front)); text = r.front; rest = r.rest; split = r.split; longest = longest }

  free : IsFree r.rest → HasFront (c ∷ cs)
  free f =
      ⊎_elim
      (λ wide. inr (fault.NumberTooWide, (front, value_of r.front, refl, f, wide)))
      (λ fits. inl (record { kind = kinds.Number (pos (value_of r.front)); text = r.front; rest = r.rest; split = r.split; token = record { longest = longest; within = (f, in_bounds (value_of r.front) fits) } }))
      (cases_lt max_number (value_of r.front))

  number : HasFront (c ∷ cs)
  number = ⊎_elim free (λ n. inr (fault.BadNumber, inr (front, value_of r.front, refl, n))) (free_or_not r.rest)

-- a digit begins a number, or one that isn't free behind or too great
pub digits_front : (c : ℕ) (cs : List ℕ) → is_ascii_digit c ≡ true → HasFront (c ∷ cs)
digits_front c cs starts = number c cs starts (run_of (has classes.Digits) (c ∷ cs))
