-- The mark at the front.
use Rattle.std.proofs.Common.{◌≡◌, ℕ, eqb, List, [], ◌∷◌, ◌++◌, length, Option, Some, None, refl, sym, ap, ◌∙◌, arith, append_assoc, length-append, inl, inr}
use Rattle.std.specs.List.{starts_with}
use Rattle.std.proofs.lemmas.Bool.Decides.{Decides-eqb}
use Rattle.std.proofs.lemmas.List.{nil_from_length}
use Rattle.std.proofs.lemmas.Slice.Eq.{starts_is}
use Rattle.utopist_lexer.specs.declared.mark.Mark.{Mark}
use Rattle.utopist_lexer.specs.declared.token.Kind.{Kind}
use Rattle.utopist_lexer.specs.declared.token.Kind.TheVariants as kinds
use Rattle.utopist_lexer.specs.declared.fault.LexKind.TheVariants as fault
use Rattle.utopist_lexer.specs.Spelling.{mark_text}
use Rattle.utopist_lexer.specs.Lexical.{Spells}
use Rattle.utopist_lexer.specs.Faults.{IsLoneDollar}
use Rattle.utopist_lexer.specs.steps.Tables.{marks_by_length, front_mark}
use Rattle.utopist_lexer.proofs.Spellings.{mark_greatest, mark_found}
use Rattle.utopist_lexer.proofs.Leads.{lead, other, spells_lead, spells_something, other_mark}
use Rattle.token_lists.proofs.FrontTokens.{HasFront}
use Rattle.token_lists.proofs.Tables.{find_some}

front_found : (text : List ℕ) (m : Mark) → front_mark text ≡ Some m → (rest : List ℕ) × (text ≡ mark_text m ++ rest)
front_found text m e = (_, (starts_is Decides-eqb text (mark_text m) _ refl).0 (find_some (λ n. starts_with eqb text (mark_text n)) marks_by_length m e))

no_dollar : (c : ℕ) (cs : List ℕ) → (c ≡ 36 → ⊥) → IsLoneDollar (c ∷ cs) → ⊥
no_dollar c [] h l = h l
no_dollar c (d ∷ ds) h l = h l.0

module _ (c : ℕ) (cs : List ℕ) (otherwise : lead c ≡ other) where
  -- what spells a token here is a mark
  a_mark : (k : Kind) (front rest : List ℕ) → c ∷ cs ≡ front ++ rest → Spells k front → (n : Mark) × (front ≡ mark_text n)
  a_mark k [] rest e s = absurd (spells_something k s)
  a_mark k (d ∷ ds) rest e s = let same : d ≡ c = cc in other_mark k (d ∷ ds) (sym (spells_lead k d ds s) ∙ ap lead same ∙ otherwise) s

  longest : (m : Mark) (rest : List ℕ) → c ∷ cs ≡ mark_text m ++ rest → front_mark (c ∷ cs) ≡ Some m → (more after : List ℕ) (k : Kind) → rest ≡ more ++ after → Spells k (mark_text m ++ more) → more ≡ []
  longest m rest e found more after k split s =
      let whole : c ∷ cs ≡ (mark_text m ++ more) ++ after = e ∙ ap (λ (l : List ℕ). mark_text m ++ l) split ∙ sym (append_assoc (mark_text m) more after) in
      let n = a_mark k (mark_text m ++ more) after whole s in
      let is : c ∷ cs ≡ mark_text n.0 ++ after = whole ∙ ap (λ (l : List ℕ). l ++ after) n.1 in
      nil_from_length more (omega (arith, mark_greatest n.0 m (c ∷ cs) after is found, ap length n.1, length-append (mark_text m) more))

  none : front_mark (c ∷ cs) ≡ None → (k : Kind) (front rest : List ℕ) → c ∷ cs ≡ front ++ rest → Spells k front → ⊥
  none e k front rest split s = let n = a_mark k front rest split s in mark_found n.0 rest (sym (ap front_mark (split ∙ ap (λ (l : List ℕ). l ++ rest) n.1)) ∙ e)

  by_mark : (c ≡ 36 → ⊥) → (m : Option Mark) → front_mark (c ∷ cs) ≡ m → HasFront (c ∷ cs)
  by_mark h (Some m) e =
      let at = front_found (c ∷ cs) m e in
      inl (record { kind = kinds.Mark m; text = mark_text m; rest = at.0; split = at.1; token = record { longest = record { spelled = refl; longest = longest m at.0 at.1 e }; within = tt } })
  by_mark h None e = inr (fault.BadChar, (no_dollar c cs h, none e))

-- another character begins a mark, or no token
pub mark_front : (c : ℕ) (cs : List ℕ) → lead c ≡ other → (c ≡ 36 → ⊥) → HasFront (c ∷ cs)
mark_front c cs otherwise h = by_mark c cs otherwise h (front_mark (c ∷ cs)) refl
