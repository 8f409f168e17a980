-- Which token a lexer gives next, and what is left behind it.
use Rattle.std.proofs.Common.{◌≡◌, ℕ, ◌<◌, ◌≤◌, Bool, true, false, cond, not, eqb, List, [], ◌∷◌, length, refl, sym, ap, subst, ◌∙◌, arith, length-append, inl, inr}
use Rattle.std.specs.Prelude.{◌⊎◌}
use Rattle.std.specs.Str.{chars, encode_utf8_all}
use Rattle.priz_base.specs.declared.place.Place.{Place}
use Rattle.utopist_lexer.specs.declared.token.Kind.{Kind}
use Rattle.utopist_lexer.specs.declared.token.Kind.TheVariants as kinds
use Rattle.utopist_lexer.specs.declared.token.Token.{Token}
use Rattle.utopist_lexer.specs.Characters.{is_blank}
use Rattle.utopist_lexer.specs.Gap.{past_gap}
use Rattle.utopist_lexer.specs.Kinds.{same_kind}
use Rattle.utopist_lexer.specs.Lexical.{Tok, Spells, IsToken}
use Rattle.utopist_lexer.specs.Scanning.{Scan, place_of, tok, IsNext, IsEnd}
use Rattle.utopist_lexer.proofs.Leads.{spells_something}
use Rattle.token_forms.specs.Symbols.{symbol_at, symbol_of, symbol}
use Rattle.token_forms.proofs.SameKind.{same_kind-true, same_kind-refl}

-- ---- the measure

gap_at : (b : Bool) (n : ℕ) (x y : List ℕ) → length x ≤ n → length y ≤ n → length (cond b x y) ≤ n
gap_at true n x y h i = h
gap_at false n x y h i = i

gap_short : (inside : Bool) (cs : List ℕ) → length (past_gap inside cs) ≤ length cs
gap_short inside [] = omega arith
gap_short true (c ∷ cs) = let h = gap_short (not (eqb c 10)) cs in omega (arith, h)
gap_short false (c ∷ cs) =
    let h : length (past_gap false cs) ≤ length (c ∷ cs) = omega (arith, gap_short false cs) in
    let i : length (past_gap true cs) ≤ length (c ∷ cs) = omega (arith, gap_short true cs) in
    gap_at (is_blank c) (length (c ∷ cs)) (past_gap false cs) _ h (gap_at (eqb c 35) (length (c ∷ cs)) (past_gap true cs) (c ∷ cs) i (omega arith))

some_text : (k : Kind) (text rest : List ℕ) → IsToken k text rest → 1 ≤ length text
some_text k [] rest t = absurd (spells_something k t.longest.spelled)
some_text k (c ∷ cs) rest t = omega arith

pub next_shorter : (s : Scan) (t : Tok) (after : List ℕ) → IsNext s t after → length after < length s.left
next_shorter s t after n =
    omega (arith, gap_short false s.left, ap length n.split, length-append t.text after, some_text t.kind t.text after n.token)

-- ---- which of the two comes next

ends_not : (s : Scan) (t : Tok) (after : List ℕ) → IsNext s t after → t.kind ≡ kinds.End → ⊥
ends_not s t after n e = subst (λ k. Spells k t.text) e n.token.longest.spelled

pub never_end : (s : Scan) (t : Tok) (after : List ℕ) → IsNext s t after → same_kind t.kind kinds.End ≡ false
never_end s t after n = go (same_kind t.kind kinds.End) refl where
  go : (b : Bool) → same_kind t.kind kinds.End ≡ b → same_kind t.kind kinds.End ≡ false
  go false e = e
  go true e = absurd (ends_not s t after n (same_kind-true t.kind kinds.End e))

pub end_comes : (s : Scan) (t : Tok) (after : List ℕ) → true ≡ same_kind t.kind kinds.End → IsNext s t after ⊎ IsEnd s t after → IsEnd s t after
end_comes s t after e (inl n) = absurd (ends_not s t after n (same_kind-true t.kind kinds.End (sym e)))
end_comes s t after e (inr x) = x

pub next_comes : (s : Scan) (t : Tok) (after : List ℕ) → false ≡ same_kind t.kind kinds.End → IsNext s t after ⊎ IsEnd s t after → IsNext s t after
next_comes s t after e (inl n) = n
next_comes s t after e (inr x) = absurd (let h : true ≡ false = sym (ap (λ (k : Kind). same_kind k kinds.End) x.kind ∙ same_kind-refl kinds.End) ∙ sym e in cc)

-- ---- symbols

same_symbol : (k : Kind) (text bytes : List ℕ) (p : Place) → text ≡ bytes → symbol_at k (record { text = bytes; place = p }) ≡ symbol_at k (record { text = text; place = p })
same_symbol k text bytes p e = ap (λ (l : List ℕ). symbol_at k (record { text = l; place = p })) (sym e)

pub symbol_is : (t : Token) → encode_utf8_all (chars t.text.now) ≡ t.text.now → symbol t ≡ symbol_of (tok t)
symbol_is t e = same_symbol t.kind (encode_utf8_all (chars t.text.now)) t.text.now (place_of t) e
