-- Looking for the first token of a form that is left out, as a loop does.
use Rattle.std.proofs.Common.{◌≡◌, ℕ, true, false, List, [], ◌∷◌, ◌++◌, Some, None, refl, sym, ap, subst, ◌∙◌, append_assoc, inl, inr}
use Rattle.std.proofs.lemmas.List.{append-nil, map-append}
use Rattle.utopist_lexer.specs.declared.token.Kind.{Kind}
use Rattle.utopist_lexer.specs.declared.token.Token.{Token}
use Rattle.utopist_lexer.specs.declared.fault.LexFault.{LexFault}
use Rattle.utopist_lexer.specs.Gap.{past_gap}
use Rattle.utopist_lexer.specs.Places.{Stands}
use Rattle.utopist_lexer.specs.Lexical.{Tok}
use Rattle.utopist_lexer.specs.Tokens.{ReadsTo}
use Rattle.utopist_lexer.specs.Scanning.{Scan, place_of, tok, IsNext, IsEnd, IsFault}
use Rattle.utopist_lexer.proofs.OneWay.{one_list, not_both, Meet, reads_meet, none_inside, none_at_end}
use Rattle.file_accept.specs.declared.unbuilt.LeftOut.{LeftOut}
use Rattle.file_accept.specs.declared.unbuilt.Context.{Context}
use Rattle.file_accept.specs.Unbuilt.{opens, context_behind, at_start, behind_all, NoneOpens, kinds_of, FirstLeftOut, LeftOutOf}

pub none-append : (o : LeftOut) (c : Context) (xs ys : List Kind) → NoneOpens o c xs → NoneOpens o (behind_all c xs) ys → NoneOpens o c (xs ++ ys)
none-append o c [] ys h i = i
none-append o c (x ∷ xs) ys h i = (h.0, none-append o (context_behind c x) xs ys h.1 i)

pub append-none : (o : LeftOut) (c : Context) (xs ys : List Kind) → NoneOpens o c (xs ++ ys) → NoneOpens o (behind_all c xs) ys
append-none o c [] ys h = h
append-none o c (x ∷ xs) ys h = append-none o (context_behind c x) xs ys h.1

pub none-front : (o : LeftOut) (c : Context) (xs ys : List Kind) → NoneOpens o c (xs ++ ys) → NoneOpens o c xs
none-front o c [] ys h = tt
none-front o c (x ∷ xs) ys h = (h.0, none-front o (context_behind c x) xs ys h.1)

pub behind-append : (c : Context) (xs ys : List Kind) → behind_all c (xs ++ ys) ≡ behind_all (behind_all c xs) ys
behind-append c [] ys = refl
behind-append c (x ∷ xs) ys = behind-append (context_behind c x) xs ys

-- the tokens before what is left, none of which begins such a form, and what they leave
pub record LookedAt (o : LeftOut) (text : List ℕ) (s : Scan) (c : Context) : Type 0 where
  pub tokens : List Tok
  pub whole : s.whole ≡ text
  pub grows : (ts : List Tok) (stop : List ℕ) → ReadsTo text s.left ts stop → ReadsTo text text (tokens ++ ts) stop
  pub none : NoneOpens o at_start (kinds_of tokens)
  pub context : behind_all at_start (kinds_of tokens) ≡ c

pub looks_first : (o : LeftOut) (text : List ℕ) (s : Scan) → s ≡ record { whole = text; left = text } → LookedAt o text s at_start
looks_first o text s is = record {
  tokens = [];
  whole = ap (λ (x : Scan). x.whole) is;
  grows = λ ts stop r. subst (λ (x : Scan). ReadsTo text x.left ts stop) is r;
  none = tt;
  context = refl;
}

module _ (o : LeftOut) (text : List ℕ) (s : Scan) (c : Context) (so_far : LookedAt o text s c) where
  all_read : (stop : List ℕ) → past_gap false s.left ≡ stop → ReadsTo text text so_far.tokens stop
  all_read stop e = subst (λ (l : List Tok). ReadsTo text text l stop) (append-nil so_far.tokens) (so_far.grows [] stop e)

  module _ (t : Token) where
    abbrev more : List Tok
    more = so_far.tokens ++ tok t ∷ []

    kinds : kinds_of more ≡ kinds_of so_far.tokens ++ t.kind ∷ []
    kinds = map-append (λ (x : Tok). x.kind) so_far.tokens (tok t ∷ [])

    -- with the next token the tokens go on
    grown : (s' : Scan) → IsNext s (tok t) s'.left → (ts : List Tok) (stop : List ℕ) → ReadsTo text s'.left ts stop → ReadsTo text text (so_far.tokens ++ tok t ∷ ts) stop
    grown s' n ts stop r = so_far.grows (tok t ∷ ts) stop (s'.left, n.split, subst (λ (w : List ℕ). Stands w (past_gap false s.left) (place_of t)) so_far.whole n.place, n.token, r)

    -- where the next token begins no such form the search goes on behind it
    pub looks_on : (s' : Scan) (c' : Context) → s'.whole ≡ s.whole → IsNext s (tok t) s'.left → c' ≡ context_behind c t.kind → opens o c t.kind ≡ false → LookedAt o text s' c'
    looks_on s' c' same n now closed = record {
      tokens = more;
      whole = same ∙ so_far.whole;
      grows = λ ts stop r. subst (λ (l : List Tok). ReadsTo text text l stop) (sym (append_assoc so_far.tokens (tok t ∷ []) ts)) (grown s' n ts stop r);
      none = subst (NoneOpens o at_start) (sym kinds) (none-append o at_start (kinds_of so_far.tokens) (t.kind ∷ []) so_far.none (subst (λ (x : Context). opens o x t.kind ≡ false) (sym so_far.context) closed, tt));
      context = ap (behind_all at_start) kinds ∙ behind-append at_start (kinds_of so_far.tokens) (t.kind ∷ []) ∙ ap (λ (x : Context). context_behind x t.kind) so_far.context ∙ sym now;
    }

    -- where it begins one it is the first of all tokens that does
    first_of : (ts after : List Tok) → opens o c t.kind ≡ true → ts ≡ so_far.tokens ++ tok t ∷ after → FirstLeftOut o ts (place_of t)
    first_of ts after open_now split = record {
      before = so_far.tokens;
      next = tok t;
      after = after;
      split = split;
      none = so_far.none;
      opening = subst (λ (x : Context). opens o x t.kind ≡ true) (sym so_far.context) open_now;
      here = refl;
    }

    -- the tokens of the text go on behind it
    by_meeting : (ts : List Tok) (stop : List ℕ) → opens o c t.kind ≡ true → Meet text more ts stop [] → FirstLeftOut o ts (place_of t)
    by_meeting ts stop open_now (inl e) = first_of ts [] open_now (sym e.0)
    by_meeting ts stop open_now (inr (inl i)) = first_of ts (i.token ∷ i.more) open_now (i.longer ∙ append_assoc so_far.tokens (tok t ∷ []) (i.token ∷ i.more))
    by_meeting ts stop open_now (inr (inr i)) = absurd (none_inside text ts more [] none_at_end i)

    pub opens_first : (s' : Scan) → IsNext s (tok t) s'.left → opens o c t.kind ≡ true → LeftOutOf o text (Some (place_of t))
    opens_first s' n open_now ts r = by_meeting ts (past_gap false s'.left) open_now (reads_meet text text more ts (past_gap false s'.left) [] (grown s' n [] (past_gap false s'.left) refl) r)

  pub ends : (t : Token) (left : List ℕ) → IsEnd s (tok t) left → LeftOutOf o text None
  ends t left e ts r = subst (λ (l : List Tok). NoneOpens o at_start (kinds_of l)) (one_list text so_far.tokens ts (all_read [] e.nothing) r) so_far.none

  pub fails : (f : LexFault) (left : List ℕ) → IsFault s f left → LeftOutOf o text None
  fails f left e ts r =
      absurd (not_both text ts so_far.tokens f.place f.kind r (record {
        left = past_gap false s.left;
        some = e.some;
        read = all_read (past_gap false s.left) refl;
        stands = subst (λ (w : List ℕ). Stands w (past_gap false s.left) f.place) so_far.whole e.place;
        faulty = e.faulty;
      }))
