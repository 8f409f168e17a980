-- The tokens of a text without their places.
use Rattle.std.proofs.Common.{◌≡◌, ℕ, Bool, true, false, cond, eqb, not, List, [], ◌∷◌, ◌++◌, None, Some, map, refl, sym, ap, subst, ◌∙◌, arith, append_assoc}
use Rattle.std.proofs.lemmas.Bool.Decides.{nat_tests}
use Rattle.utopist_lexer.specs.declared.mark.Mark.{Mark}
use Rattle.utopist_lexer.specs.declared.mark.Mark.TheVariants as marks
use Rattle.utopist_lexer.specs.declared.token.Kind.{Kind}
use Rattle.utopist_lexer.specs.declared.token.Kind.TheVariants as kinds
use Rattle.utopist_lexer.specs.Characters.{is_blank}
use Rattle.utopist_lexer.specs.Gap.{past_gap}
use Rattle.utopist_lexer.specs.Places.{first_place, place_behind}
use Rattle.utopist_lexer.specs.Spelling.{mark_text}
use Rattle.utopist_lexer.specs.Lexical.{Tok, Spells, IsToken}
use Rattle.utopist_lexer.specs.Tokens.{ReadsTo}
use Rattle.utopist_lexer.specs.steps.Tables.{front_mark}
use Rattle.utopist_lexer.specs.Cutting.{StopsAt}
use Rattle.utopist_lexer.proofs.Spellings.{mark_at-text}
use Rattle.utopist_lexer.proofs.Leads.{lead, other, spells_lead, spells_something, other_mark}
use Rattle.canonical_reading.specs.Piece.{Piece, piece_of, HasPieces}
use Rattle.canonical_reading.proofs.Classes.{blank_lead, hash_lead, greater_lead}

-- these are the tokens of what is left of a text
abbrev pub Follows : List ℕ → List Piece → Type 0
Follows cs [] = past_gap false cs ≡ []
Follows cs (p ∷ ps) = (rest : List ℕ) × (past_gap false cs ≡ p.text ++ rest) × IsToken p.kind p.text rest × Follows rest ps

-- ---- places

-- what stands behind a gap ends the text
abbrev Ends : List ℕ → List ℕ → Type 0
Ends cs rest = (gap : List ℕ) × (cs ≡ gap ++ rest)

-- one more character in the gap
ends_more : (c : ℕ) (cs rest : List ℕ) → Ends cs rest → Ends (c ∷ cs) rest
ends_more c cs rest e = (c ∷ e.0, ap (λ (l : List ℕ). c ∷ l) e.1)

-- whichever of three ends it
ends_either : (x y : Bool) (cs p q r : List ℕ) → Ends cs p → Ends cs q → Ends cs r → Ends cs (cond x p (cond y q r))
ends_either true y cs p q r a b d = a
ends_either false true cs p q r a b d = b
ends_either false false cs p q r a b d = d

-- a text ends with what stands behind its gap
past_gap_ends : (inside : Bool) (cs : List ℕ) → Ends cs (past_gap inside cs)
past_gap_ends true [] = ([], refl)
past_gap_ends false [] = ([], refl)
past_gap_ends true (c ∷ cs) = ends_more c cs _ (past_gap_ends (not (eqb c 10)) cs)
past_gap_ends false (c ∷ cs) =
    ends_either (is_blank c) (eqb c 35) (c ∷ cs) (past_gap false cs) (past_gap true cs) (c ∷ cs)
    (ends_more c cs _ (past_gap_ends false cs)) (ends_more c cs _ (past_gap_ends true cs)) ([], refl)

-- the tokens of what is left, with their places
abbrev Placed : List ℕ → List ℕ → List Piece → Type 0
Placed whole cs ps = (ts : List Tok) × ReadsTo whole cs ts [] × (map piece_of ts ≡ ps)

-- pieces that follow each other have places
place_pieces : (whole before cs : List ℕ) (ps : List Piece) → whole ≡ before ++ cs → Follows cs ps → Placed whole cs ps
place_pieces whole before cs [] e f = ([], f, refl)
place_pieces whole before cs (p ∷ ps) e f =
    let gap = past_gap_ends false cs in
    let there : whole ≡ (before ++ gap.0) ++ past_gap false cs = e ∙ ap (λ (l : List ℕ). before ++ l) gap.1 ∙ sym (append_assoc before gap.0 (past_gap false cs)) in
    let behind : whole ≡ ((before ++ gap.0) ++ p.text) ++ f.0 = there ∙ ap (λ (l : List ℕ). (before ++ gap.0) ++ l) f.1 ∙ sym (append_assoc (before ++ gap.0) p.text f.0) in
    let more = place_pieces whole ((before ++ gap.0) ++ p.text) f.0 ps behind f.3 in (
      record { kind = p.kind; text = p.text; place = place_behind first_place (before ++ gap.0) } ∷ more.0,
      (f.0, f.1, (before ++ gap.0, there, refl), f.2, more.1),
      (λ i. p ∷ more.2 i),
    )

-- a text reads as the pieces that follow each other in it
pub has_pieces : (text : List ℕ) (ps : List Piece) → Follows text ps → HasPieces text ps
has_pieces text ps f = place_pieces text [] text ps refl f

-- ---- what begins a token

-- no blank and no #
opens_at : (c : ℕ) (cs : List ℕ) (x y : Bool) → is_blank c ≡ x → eqb c 35 ≡ y → (lead c ≡ other → ⊥) → past_gap false (c ∷ cs) ≡ c ∷ cs
opens_at c cs true y e d o = absurd (o (blank_lead c e))
opens_at c cs false true e d o = let same : c ≡ 35 = grind (arith, nat_tests) in absurd (o (ap lead same ∙ hash_lead))
opens_at c cs false false e d o = rw (e, d) refl

-- no gap stands before a mark
mark_opens : (m : Mark) (rest : List ℕ) → past_gap false (mark_text m ++ rest) ≡ mark_text m ++ rest
mark_opens marks.OpenRound rest = refl
mark_opens marks.CloseRound rest = refl
mark_opens marks.OpenSquare rest = refl
mark_opens marks.CloseSquare rest = refl
mark_opens marks.OpenCurly rest = refl
mark_opens marks.CloseCurly rest = refl
mark_opens marks.Colon rest = refl
mark_opens marks.Semicolon rest = refl
mark_opens marks.Comma rest = refl
mark_opens marks.Dot rest = refl
mark_opens marks.Equal rest = refl
mark_opens marks.Less rest = refl
mark_opens marks.AtMost rest = refl
mark_opens marks.Plus rest = refl
mark_opens marks.Minus rest = refl
mark_opens marks.Star rest = refl
mark_opens marks.Slash rest = refl
mark_opens marks.Arrow rest = refl

-- a gap ends where a token begins
pub opens : (k : Kind) (text rest : List ℕ) → Spells k text → past_gap false (text ++ rest) ≡ text ++ rest
opens k [] rest s = absurd (spells_something k s)
opens kinds.Name (c ∷ cs) rest s = opens_at c (cs ++ rest) _ _ refl refl (λ o. let e = sym (spells_lead kinds.Name c cs s) ∙ o in cc)
opens (kinds.Word w) (c ∷ cs) rest s = opens_at c (cs ++ rest) _ _ refl refl (λ o. let e = sym (spells_lead (kinds.Word w) c cs s) ∙ o in cc)
opens (kinds.Number i) (c ∷ cs) rest s = opens_at c (cs ++ rest) _ _ refl refl (λ o. let e = sym (spells_lead (kinds.Number i) c cs s) ∙ o in cc)
opens (kinds.Sub i j) (c ∷ cs) rest s = opens_at c (cs ++ rest) _ _ refl refl (λ o. let e = sym (spells_lead (kinds.Sub i j) c cs s) ∙ o in cc)
opens (kinds.Mark m) (c ∷ cs) rest s = subst (λ (l : List ℕ). past_gap false (l ++ rest) ≡ l ++ rest) (sym s) (mark_opens m rest)
opens kinds.End (c ∷ cs) rest s = absurd s

-- ---- no token begins with >

-- nothing that begins with > spells a token
greater_none : (k : Kind) (text rest cs : List ℕ) → 62 ∷ cs ≡ text ++ rest → Spells k text → ⊥
greater_none k [] rest cs e s = spells_something k s
greater_none k (d ∷ ds) rest cs e s =
    let same : d ≡ 62 = cc in
    let m = other_mark k (d ∷ ds) (sym (spells_lead k d ds s) ∙ ap lead same ∙ greater_lead) s in
    let there : front_mark (62 ∷ ds) ≡ Some m.0 = ap (λ (x : ℕ). front_mark (x ∷ ds)) (sym same) ∙ ap front_mark m.1 ∙ mark_at-text m.0 in
    let none : None ≡ Some m.0 = there in
    cc

-- no tokens are there
greater_follows : (cs : List ℕ) (ps : List Piece) → Follows (62 ∷ cs) ps → ⊥
greater_follows cs [] f = cc
greater_follows cs (p ∷ ps) f = greater_none p.kind p.text f.0 cs f.1 f.2.longest.spelled

-- so none begins with it, by cases
no_greater : (c : ℕ) (cs : List ℕ) (ps : List Piece) (b : Bool) → eqb 62 c ≡ b → Follows (c ∷ cs) ps → eqb 62 c ≡ false
no_greater c cs ps true e f = let same : c ≡ 62 = grind (arith, nat_tests) in absurd (greater_follows cs ps (subst (λ (x : ℕ). Follows (x ∷ cs) ps) same f))
no_greater c cs ps false e f = e

-- a text that has its tokens does not begin with >
pub stops_greater : (cs : List ℕ) (ps : List Piece) → Follows cs ps → StopsAt (λ c. eqb 62 c) cs
stops_greater [] ps f = tt
stops_greater (c ∷ cs) ps f = no_greater c cs ps (eqb 62 c) refl f
