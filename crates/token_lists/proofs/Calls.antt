-- The call at the front: $ and a number, and perhaps the number of an output.
use Rattle.std.proofs.Common.{◌≡◌, ℕ, ◌<◌, ◌≤◌, List, [], ◌∷◌, ◌++◌, length, refl, sym, ap, subst, ◌∙◌, arith, append_assoc, inl, inr, ⊎_elim}
use Rattle.std.specs.Prelude.{pos}
use Rattle.std.specs.Char.{is_ascii_digit}
use Rattle.std.proofs.lemmas.Bool.{cases_lt}
use Rattle.utopist_lexer.specs.declared.classes.Class.TheVariants as classes
use Rattle.utopist_lexer.specs.declared.token.Kind.{Kind}
use Rattle.utopist_lexer.specs.declared.token.Kind.TheVariants as kinds
use Rattle.utopist_lexer.specs.declared.fault.LexKind.TheVariants as fault
use Rattle.utopist_lexer.specs.Characters.{has}
use Rattle.utopist_lexer.specs.Lexical.{value_of, IsLongest, IsFree, max_number}
use Rattle.utopist_lexer.specs.Faults.{Front}
use Rattle.utopist_lexer.specs.Cutting.{StopsAt}
use Rattle.utopist_lexer.proofs.Fronts.{lone_dollar}
use Rattle.token_lists.proofs.Runs.{Run, run_of}
use Rattle.token_lists.proofs.FrontTokens.{HasFront, free_or_not, in_bounds}
use Rattle.token_lists.proofs.OutputNumbers.{Output, output_of}

module _ (cs : List ℕ) (r : Run (has classes.Digits) cs) where
  lone : r.front ≡ [] → HasFront (36 ∷ cs)
  lone none = inr (fault.BadNumber, inl (lone_dollar (36 ∷ cs) cs refl (subst (StopsAt is_ascii_digit) (sym (r.split ∙ ap (λ (l : List ℕ). l ++ r.rest) none)) r.run.stops)))

  module _ (some : 0 < length r.front) (o : Output r.rest) where
    abbrev kind : Kind
    kind = kinds.Sub (pos (value_of r.front)) (pos o.number)

    abbrev text : List ℕ
    text = 36 ∷ (r.front ++ o.text)

    split : 36 ∷ cs ≡ text ++ o.last
    split = ap (λ (l : List ℕ). 36 ∷ l) (r.split ∙ ap (λ (l : List ℕ). r.front ++ l) o.split ∙ sym (append_assoc r.front o.text o.last))

    longest : IsLongest kind text o.last
    longest = record {
      spelled = record { digits = r.front; behind = o.text; are = refl; some = (some, r.run.passes); value = refl; output = o.spells };
      longest = o.longest r.front r.run;
    }

    abbrev front : Front (36 ∷ cs)
    front = record { kind = kind; text = text; rest = o.last; split = split; longest = longest }

    fits : IsFree o.last → value_of r.front ≤ max_number → o.number ≤ max_number → HasFront (36 ∷ cs)
    fits f v w = inl (record { kind = kind; text = text; rest = o.last; split = split; token = record { longest = longest; within = (f, λ n h. ⊎_elim (in_bounds (value_of r.front) v n) (in_bounds o.number w n) h) } })

    free : IsFree o.last → HasFront (36 ∷ cs)
    free f =
        ⊎_elim
        (λ wide. inr (fault.NumberTooWide, (front, value_of r.front, inl refl, f, wide)))
        (λ v. ⊎_elim (λ wide. inr (fault.NumberTooWide, (front, o.number, inr refl, f, wide))) (fits f v) (cases_lt max_number o.number))
        (cases_lt max_number (value_of r.front))

    numbered : HasFront (36 ∷ cs)
    numbered = ⊎_elim free (λ n. inr (fault.BadNumber, inr (front, value_of r.front, inl refl, n))) (free_or_not o.last)

  by_digits : (front : List ℕ) → r.front ≡ front → HasFront (36 ∷ cs)
  by_digits [] e = lone e
  by_digits (d ∷ ds) e = numbered (subst (λ (l : List ℕ). 0 < length l) (sym e) (omega arith)) (output_of r.rest)

-- a $ begins a call, or has no digit behind it, or a number that isn't free behind or too great
pub dollar_front : (cs : List ℕ) → HasFront (36 ∷ cs)
dollar_front cs = let r = run_of (has classes.Digits) cs in by_digits cs r r.front refl
