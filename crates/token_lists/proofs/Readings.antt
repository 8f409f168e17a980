-- All tokens of a text, up to its end or its first fault.
use Rattle.std.proofs.Common.{ℕ, ◌<◌, zero, suc, false, List, [], ◌∷◌, length, Option, Some, None, refl, ap, subst, arith, length-append, ⊎_elim}
use Rattle.priz_base.specs.declared.place.Place.{Place}
use Rattle.utopist_lexer.specs.declared.token.Kind.{Kind}
use Rattle.utopist_lexer.specs.declared.fault.LexFault.{LexFault}
use Rattle.utopist_lexer.specs.Gap.{past_gap}
use Rattle.utopist_lexer.specs.Places.{first_place, Stands}
use Rattle.utopist_lexer.specs.Lexical.{Tok, Spells}
use Rattle.utopist_lexer.specs.Tokens.{ReadsTo}
use Rattle.utopist_lexer.specs.Scanning.{IsNext, IsEnd, IsFault}
use Rattle.utopist_lexer.proofs.Leads.{spells_something}
use Rattle.token_lists.specs.AllTokens.{AreTokens, HasTokens}
use Rattle.token_lists.specs.TokensFrom.{StopsBy, TokensFrom, TokensExist, FirstAreAll}
use Rattle.token_lists.proofs.Gaps.{gap_end}
use Rattle.token_lists.proofs.Next.{next_exists, stands_behind}

-- ---- one step

spelled_length : (k : Kind) (text : List ℕ) → Spells k text → 0 < length text
spelled_length k [] s = absurd (spells_something k s)
spelled_length k (c ∷ cs) s = omega arith

module _ (whole left : List ℕ) (t : Tok) (after : List ℕ) (n : IsNext (record { whole = whole; left = left }) t after) where
  -- less is left behind a token
  less_left : length after < length left
  less_left =
      let g = gap_end false left in
      omega (arith, ap length g.1, length-append g.0 (past_gap false left), ap length n.split, length-append t.text after, spelled_length t.kind t.text n.token.longest.spelled)

  -- one more token in front
  abbrev pub one_more : TokensFrom whole after → TokensFrom whole left
  one_more r = record { tokens = t ∷ r.tokens; fault = r.fault; stop = r.stop; read = (after, n.split, n.place, n.token, r.read); stops = r.stops }

module _ (whole left : List ℕ) where
  abbrev pub at_end : (t : Tok) (after : List ℕ) → IsEnd (record { whole = whole; left = left }) t after → TokensFrom whole left
  at_end t after e = record { tokens = []; fault = None; stop = []; read = e.nothing; stops = refl }

  abbrev pub at_fault : (f : LexFault) (after : List ℕ) → IsFault (record { whole = whole; left = left }) f after → TokensFrom whole left
  at_fault f after e = record { tokens = []; fault = Some f; stop = past_gap false left; read = refl; stops = (e.some, e.place, e.faulty) }

-- ---- all of them

shorter : (a b n : ℕ) → a < b → b < suc n → a < n
shorter a b n h k = omega (arith, h, k)

-- in fewer steps than this
within : (n : ℕ) (whole left : List ℕ) (p : Place) → Stands whole left p → length left < n → TokensFrom whole left
within zero whole left p r h = absurd (omega (arith, h))
within (suc n) whole left p r h =
    ⊎_elim
    (λ x. one_more whole left x.0 x.1 x.2 (within n whole x.1 _ (stands_behind (record { whole = whole; left = left }) x.0 x.1 x.2).1 (shorter _ _ n (less_left whole left x.0 x.1 x.2) h)))
    (λ y. ⊎_elim (λ e. at_end whole left e.0 [] e.1) (λ f. at_fault whole left f.0 left f.1) y)
    (next_exists (record { whole = whole; left = left }) p r)

pub tokens_from : (whole : List ℕ) → TokensExist whole
tokens_from whole left p r = within (suc (length left)) whole left p r (omega arith)

stops_as : (text : List ℕ) (ts : List Tok) (f : Option LexFault) (stop : List ℕ) → ReadsTo text text ts stop → StopsBy text stop f → AreTokens text ts f
stops_as text ts None stop r e = subst (λ (l : List ℕ). ReadsTo text text ts l) e r
stops_as text ts (Some f) stop r e = record { left = stop; some = e.0; read = r; stands = e.1; faulty = e.2 }

-- those of what is left at the start are those of the text
pub first_are_all : (text : List ℕ) → FirstAreAll text
first_are_all text all = stops_as text all.tokens all.fault all.stop all.read all.stops

pub text_tokens : (text : List ℕ) → HasTokens text
text_tokens text = let all = tokens_from text text first_place ([], refl, refl) in (all.tokens, all.fault, first_are_all text all)
