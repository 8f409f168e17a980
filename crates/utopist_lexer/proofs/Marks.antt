-- The mark at the front of a text.
use Rattle.std.proofs.Common.{◌≡◌, ℕ, Bool, true, false, eqb, not, List, [], ◌∷◌, ◌++◌, length, take, drop, Some, None, refl, sym, ap, subst, ◌∙◌, arith}
use Rattle.std.specs.Prelude.{◌||◌}
use Rattle.std.specs.Char.{is_ascii_digit}
use Rattle.std.specs.Str.{IsUtf8, IsCharBoundary, chars}
use Rattle.std.proofs.lemmas.Bool.Decides.{nat_tests}
use Rattle.std.proofs.lemmas.List.{take_at}
use Rattle.std.proofs.lemmas.Str.{encodes-chars, chars-IsAscii}
use Rattle.utopist_lexer.specs.declared.mark.Mark.{Mark}
use Rattle.utopist_lexer.specs.declared.token.Kind.TheVariants as kinds
use Rattle.utopist_lexer.specs.declared.fault.LexKind.TheVariants as fault
use Rattle.utopist_lexer.specs.Characters.{is_start, starts_otherwise}
use Rattle.utopist_lexer.specs.Spelling.{mark_text}
use Rattle.utopist_lexer.specs.Lexical.{IsLongest, IsToken}
use Rattle.utopist_lexer.specs.Faults.{Faulty, IsLoneDollar}
use Rattle.utopist_lexer.specs.steps.Tables.{front_mark}
use Rattle.utopist_lexer.specs.Cutting.{Parts, StartsBy}
use Rattle.utopist_lexer.proofs.Spellings.{mark_some}
use Rattle.utopist_lexer.proofs.Leads.{lead, other, other_lead, mark_ascii}
use Rattle.utopist_lexer.proofs.Cutting.{parts_at, boundary_mark}
use Rattle.utopist_lexer.proofs.Found.{mark_at-some}
use Rattle.utopist_lexer.proofs.Fronts.{mark_longest, no_mark}

none_of : (a b d : Bool) → not ((a || b) || d) ≡ true → (a ≡ false) × (b ≡ false) × (d ≡ false)
none_of true b d e = absurd cc
none_of false true d e = absurd cc
none_of false false true e = absurd cc
none_of false false false e = (refl, refl, refl)

otherwise_lead : (c : ℕ) → starts_otherwise c ≡ true → lead c ≡ other
otherwise_lead c h = let n = none_of (is_start c) (is_ascii_digit c) (eqb c 36) h in other_lead c n.0 n.1 n.2

module _ (text : List ℕ) (m : Mark) (mark : List ℕ) (u : IsUtf8 text) (found : front_mark text ≡ Some m) (is : mark ≡ mark_text m) where
  abbrev there : (rest : List ℕ) × (text ≡ mark_text m ++ rest)
  there = mark_at-some text m found

  pub mark_boundary : IsCharBoundary text (length mark)
  mark_boundary = subst (λ (l : List ℕ). IsCharBoundary text (length l)) (sym is) (boundary_mark text (mark_text m) there.0 u there.1 (mark_ascii m) (mark_some m))

  module _ (front rest : List ℕ) (f : front ≡ take (length mark) text) (r : rest ≡ drop (length mark) text) where
    pub mark_parts : Parts text front rest
    mark_parts = parts_at text front rest (length mark) u mark_boundary f r

    front_is : front ≡ mark_text m
    front_is = f ∙ ap (take (length mark)) there.1 ∙ take_at (mark_text m) there.0 (length mark) (ap length (sym is))

    front_spelled : chars front ≡ mark_text m
    front_spelled = ap chars front_is ∙ chars-IsAscii (mark_text m) (mark_ascii m)

    pub mark_token : StartsBy starts_otherwise text → IsToken (kinds.Mark m) (chars front) (chars rest)
    mark_token s =
        let split : chars text ≡ mark_text m ++ chars rest = mark_parts.characters ∙ ap (λ (l : List ℕ). l ++ chars rest) front_spelled in
        let longest : IsLongest (kinds.Mark m) (mark_text m) (chars rest) = record {
          spelled = refl;
          longest = mark_longest text s.0 s.1 s.2 (encodes-chars text u) (otherwise_lead s.0 s.3) m (chars rest) split found;
        } in
        subst (λ (l : List ℕ). IsToken (kinds.Mark m) l (chars rest)) (sym front_spelled) (record { longest = longest; within = tt })

no_dollar : (cs : List ℕ) (c : ℕ) (ds : List ℕ) → cs ≡ c ∷ ds → eqb c 36 ≡ false → IsLoneDollar cs → ⊥
no_dollar [] c ds e h l = l
no_dollar (d ∷ []) c ds e h l = let same : c ≡ 36 = cc in absurd (grind (arith, nat_tests))
no_dollar (d ∷ b ∷ bs) c ds e h l = let same : c ≡ 36 = cc (l.0) in absurd (grind (arith, nat_tests))

pub mark_fault : (text : List ℕ) → IsUtf8 text → StartsBy starts_otherwise text → front_mark text ≡ None → Faulty fault.BadChar (chars text)
mark_fault text u s none =
    let n = none_of (is_start s.0) (is_ascii_digit s.0) (eqb s.0 36) s.3 in
    (no_dollar (chars text) s.0 s.1 s.2 n.2, no_mark text s.0 s.1 s.2 (encodes-chars text u) (otherwise_lead s.0 s.3) none)
