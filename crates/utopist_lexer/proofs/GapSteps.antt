-- Steps over blanks and comments.
use Rattle.std.proofs.Common.{◌≡◌, ℕ, Bool, true, false, List, [], ◌∷◌, not, eqb, refl, sym, ap, ◌∙◌, subst}
use Rattle.std.proofs.lemmas.Bool.{ne_eqb}
use Rattle.utopist_lexer.specs.Characters.{is_blank}
use Rattle.utopist_lexer.specs.Gap.{past_gap}

module _ (inside : Bool) (rest after : List ℕ) (c : ℕ) (x : List ℕ) (is : rest ≡ c ∷ after) (so_far : past_gap inside rest ≡ x) where
  so_far_at : (b : Bool) → inside ≡ b → past_gap b (c ∷ after) ≡ x
  so_far_at b e = sym (ap (λ (l : List ℕ). past_gap b l) is) ∙ ap (λ (i : Bool). past_gap i rest) (sym e) ∙ so_far

  pub gap_inside : inside ≡ true → past_gap (not (eqb c 10)) after ≡ x
  gap_inside e = so_far_at true e

  pub gap_comment : inside ≡ false → c ≡ 35 → past_gap true after ≡ x
  gap_comment e hash = subst (λ (d : ℕ). past_gap false (d ∷ after) ≡ x) hash (so_far_at false e)

  pub gap_blank : inside ≡ false → true ≡ is_blank c → past_gap inside after ≡ x
  gap_blank e blank = ap (λ (i : Bool). past_gap i after) e ∙ sym (rw (sym blank) refl) ∙ so_far_at false e

  pub gap_ends : inside ≡ false → (c ≡ 35 → ⊥) → false ≡ is_blank c → rest ≡ x
  gap_ends e other blank = is ∙ sym (rw (sym blank, ne_eqb c 35 other) refl) ∙ so_far_at false e

pub gap_none : (inside : Bool) (rest x : List ℕ) → rest ≡ [] → past_gap inside rest ≡ x → rest ≡ x
gap_none inside rest x is so_far = is ∙ sym (ap (past_gap inside) is) ∙ so_far
