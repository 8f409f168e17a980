-- The number of an output, behind the digits of a call.
use Rattle.std.proofs.Common.{◌≡◌, ℕ, ◌<◌, Bool, true, false, eqb, List, [], ◌∷◌, ◌++◌, length, refl, sym, ap, subst, ◌∙◌, arith, inl, inr, append-nil}
use Rattle.std.specs.Prelude.{pos}
use Rattle.std.specs.Char.{is_ascii_digit}
use Rattle.std.specs.List.{list_all}
use Rattle.std.proofs.lemmas.Bool.{both_ways, and_parts, eqb-true, eqb-false}
use Rattle.utopist_lexer.specs.declared.classes.Class.TheVariants as classes
use Rattle.utopist_lexer.specs.declared.token.Kind.{Kind}
use Rattle.utopist_lexer.specs.Characters.{has}
use Rattle.utopist_lexer.specs.Lexical.{AreDigits, value_of, SpellsOutput, Spells}
use Rattle.utopist_lexer.specs.Cutting.{StopsAt, IsRun, IsUndotted}
use Rattle.utopist_lexer.proofs.Fronts.{sub_longest, dotted_longest}
use Rattle.token_lists.proofs.Runs.{Run, run_of}

-- its longest front
pub record Output (rest : List ℕ) : Type 0 where
  pub number : ℕ
  pub text : List ℕ
  pub last : List ℕ
  pub split : rest ≡ text ++ last
  pub spells : SpellsOutput (pos number) text
  pub longest : (digits : List ℕ) → IsRun (has classes.Digits) digits rest → (more after : List ℕ) (k : Kind) → last ≡ more ++ after → Spells k ((36 ∷ (digits ++ text)) ++ more) → more ≡ []

-- ---- where no dot and digits stand

none_bare : IsUndotted []
none_bare digits after e d = absurd cc

other_bare : (c : ℕ) (cs : List ℕ) → (c ≡ 46 → ⊥) → IsUndotted (c ∷ cs)
other_bare c cs other digits after e d = let same : c ≡ 46 = cc in other same

no_digits : (behind digits after : List ℕ) → StopsAt is_ascii_digit behind → behind ≡ digits ++ after → AreDigits digits → ⊥
no_digits behind [] after stops e d = absurd (omega (arith, d.0))
no_digits behind (x ∷ xs) after stops e d = both_ways (is_ascii_digit x) (subst (StopsAt is_ascii_digit) e stops) (and_parts (is_ascii_digit x) (list_all is_ascii_digit xs) d.1).0

dot_bare : (behind : List ℕ) → StopsAt is_ascii_digit behind → IsUndotted (46 ∷ behind)
dot_bare behind stops digits after e d = let inside : behind ≡ digits ++ after = cc in no_digits behind digits after stops inside d

-- ---- with a dot and digits, and without

bare : (rest : List ℕ) → IsUndotted rest → Output rest
bare rest b = record {
  number = 1;
  text = [];
  last = rest;
  split = refl;
  spells = inl (refl, refl);
  longest = λ digits run more after k e s. sub_longest digits rest run b more after k e (subst (λ (l : List ℕ). Spells k ((36 ∷ l) ++ more)) (append-nil digits) s);
}

dotted : (behind : List ℕ) (r : Run (has classes.Digits) behind) → 0 < length r.front → Output (46 ∷ behind)
dotted behind r some = record {
  number = value_of r.front;
  text = 46 ∷ r.front;
  last = r.rest;
  split = ap (λ (l : List ℕ). 46 ∷ l) r.split;
  spells = inr (r.front, refl, (some, r.run.passes), refl);
  longest = λ digits run more after k e s. dotted_longest digits r.front r.rest run.passes r.run more after k e s;
}

behind_dot : (behind : List ℕ) (r : Run (has classes.Digits) behind) (front : List ℕ) → r.front ≡ front → Output (46 ∷ behind)
behind_dot behind r [] e = bare (46 ∷ behind) (dot_bare behind (subst (StopsAt is_ascii_digit) (sym (r.split ∙ ap (λ (l : List ℕ). l ++ r.rest) e)) r.run.stops))
behind_dot behind r (d ∷ ds) e = dotted behind r (subst (λ (l : List ℕ). 0 < length l) (sym e) (omega arith))

first_of_output : (c : ℕ) (cs : List ℕ) (b : Bool) → eqb c 46 ≡ b → Output (c ∷ cs)
first_of_output c cs true e = let r = run_of (has classes.Digits) cs in subst (λ (x : ℕ). Output (x ∷ cs)) (sym (eqb-true c 46 e)) (behind_dot cs r r.front refl)
first_of_output c cs false e = bare (c ∷ cs) (other_bare c cs (eqb-false c 46 e))

pub output_of : (rest : List ℕ) → Output rest
output_of [] = bare [] none_bare
output_of (c ∷ cs) = first_of_output c cs (eqb c 46) refl
