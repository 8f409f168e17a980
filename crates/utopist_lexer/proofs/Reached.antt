-- Going on through a text.
use Rattle.std.proofs.Common.{◌≡◌, ◌≢◌, ℕ, ◌+◌, ◌≤◌, false, List, [], ◌∷◌, ◌++◌, length, refl, sym, ap, ◌∙◌, subst, arith, append_assoc, length-append}
use Rattle.std.specs.Str.{IsUtf8, chars, encode_utf8_all}
use Rattle.std.proofs.lemmas.Str.{encodes-chars, IsUtf8-append, IsUtf8-nil, chars-append}
use Rattle.priz_base.specs.declared.place.Place.{Place}
use Rattle.priz_base.specs.Reading.{max_input}
use Rattle.utopist_lexer.specs.declared.token.Kind.{Kind}
use Rattle.utopist_lexer.specs.declared.token.Kind.TheVariants as kinds
use Rattle.utopist_lexer.specs.declared.fault.LexKind.{LexKind}
use Rattle.utopist_lexer.specs.Gap.{past_gap}
use Rattle.utopist_lexer.specs.Places.{first_place, place_behind, Stands}
use Rattle.utopist_lexer.specs.Lexical.{Tok, IsToken}
use Rattle.utopist_lexer.specs.Faults.{Faulty}
use Rattle.utopist_lexer.specs.Scanning.{Scan, IsNext, IsEnd, IsFault}
use Rattle.utopist_lexer.specs.Cutting.{Parts, HasRoom, IsReached}
use Rattle.utopist_lexer.proofs.Counting.{room_behind, behind-append}

-- the start of a text is reached
pub reached_first : (text : List ℕ) → IsUtf8 text → length text ≤ max_input → IsReached text text first_place
unfolding chars
reached_first text u short = record {
  front = [];
  parts = record { bytes = refl; characters = refl; front_utf8 = IsUtf8-nil; rest_utf8 = u };
  place = refl;
  room = record { at = omega arith; line = omega arith; col = omega arith };
}

-- what follows a piece is reached
pub reached_more : (text rest piece after : List ℕ) (p q : Place) → IsReached text rest p → Parts rest piece after → q ≡ place_behind p (chars piece) → IsReached text after q
reached_more text rest piece after p q r parts is =
    let joined = chars-append r.front piece r.parts.front_utf8 in
    let bytes : text ≡ (r.front ++ piece) ++ after = r.parts.bytes ∙ ap (λ (l : List ℕ). r.front ++ l) parts.bytes ∙ sym (append_assoc r.front piece after) in
    let characters : chars text ≡ chars (r.front ++ piece) ++ chars after =
    r.parts.characters ∙ ap (λ (l : List ℕ). chars r.front ++ l) parts.characters ∙ sym (append_assoc (chars r.front) (chars piece) (chars after)) ∙ ap (λ (l : List ℕ). l ++ chars after) (sym joined) in
    let size : length rest ≡ length (encode_utf8_all (chars piece)) + length after =
    ap length parts.bytes ∙ length-append piece after ∙ ap (λ (l : List ℕ). length l + length after) (sym (encodes-chars piece parts.front_utf8)) in
    record {
      front = r.front ++ piece;
      parts = record { bytes = bytes; characters = characters; front_utf8 = IsUtf8-append r.front piece r.parts.front_utf8 parts.front_utf8; rest_utf8 = parts.rest_utf8 };
      place =
          is ∙ ap (λ (x : Place). place_behind x (chars piece)) r.place ∙ sym (behind-append first_place (chars r.front) (chars piece))
          ∙ ap (place_behind first_place) (sym joined);
      room = subst (λ (x : Place). HasRoom x (length after)) (sym is) (room_behind p (chars piece) (length rest) (length after) r.room size);
    }

-- there is room for a piece of what is left
pub room_of : {text front piece after : List ℕ} {q : Place} → Parts front piece after → IsReached text front q → HasRoom q (length piece)
room_of {text} {front} {piece} {after} {q} parts r =
    let size : length front ≡ length piece + length after = ap length parts.bytes ∙ length-append piece after in
    record { at = omega (arith, size, r.room.at); line = omega (arith, size, r.room.line); col = omega (arith, size, r.room.col) }

-- what is reached stands at its place
pub reached_stands : (text rest : List ℕ) (p : Place) → IsReached text rest p → Stands (chars text) (chars rest) p
reached_stands text rest p r = (chars r.front, r.parts.characters, r.place)

no_more : (xs ys : List ℕ) → xs ++ ys ≡ [] → (xs ≡ []) × (ys ≡ [])
no_more [] ys e = (refl, e)
no_more (x ∷ xs) ys e = absurd cc

-- ---- one step: a gap, and what stands behind it

module _ (text rest gap front : List ℕ) (p q : Place) (reached : IsReached text rest p) (parts : Parts rest gap front) (past : chars front ≡ past_gap false (chars rest)) (is : q ≡ place_behind p (chars gap)) where
  abbrev at_rest : Scan
  at_rest = record { whole = chars text; left = chars rest }

  pub front_reached : IsReached text front q
  front_reached = reached_more text rest gap front p q reached parts is

  stands : Stands (chars text) (past_gap false (chars rest)) q
  stands = subst (λ (l : List ℕ). Stands (chars text) l q) past (reached_stands text front q front_reached)

  module _ (k : Kind) (piece after : List ℕ) (cut : Parts front piece after) (t : Tok) (t_is : t ≡ record { kind = k; text = chars piece; place = q }) where
    pub next_is : IsToken k (chars piece) (chars after) → IsNext (record { whole = chars text; left = chars rest }) t (chars after)
    next_is token = subst (λ (u : Tok). IsNext at_rest u (chars after)) (sym t_is) (record { split = sym past ∙ cut.characters; place = stands; token = token })

    pub end_is : (k ≡ kinds.End) × (chars front ≡ []) → IsEnd (record { whole = chars text; left = chars rest }) t (chars after)
    end_is e =
        let both = no_more (chars piece) (chars after) (sym cut.characters ∙ e.1) in
        subst (λ (u : Tok). IsEnd at_rest u (chars after)) (sym t_is)
        (record { kind = e.0; nothing = sym past ∙ e.1; stays = both.1; empty = both.0; place = subst (λ (l : List ℕ). Stands (chars text) l q) (sym past ∙ e.1) stands })

  pub fault_is : (k : LexKind) → (chars front ≢ []) × Faulty k (chars front) → IsFault (record { whole = chars text; left = chars rest }) (record { place = q; kind = k }) (chars rest)
  fault_is k e = record {
    stays = refl;
    some = subst (λ (l : List ℕ). l ≢ []) past e.0;
    place = stands;
    faulty = subst (Faulty k) past e.1;
  }
