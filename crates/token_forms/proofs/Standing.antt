-- Where a reader stands among the tokens of a text.
use Rattle.std.proofs.Common.{◌≡◌, ℕ, ◌-◌, Bool, true, false, cond, List, [], ◌∷◌, ◌++◌, length, map, take, drop, Option, Some, None, Result, Ok, Err, refl, sym, ap, subst, ◌∙◌, append_assoc, arith, inl, inr, length-append}
use Rattle.std.specs.Prelude.{IfOk}
use Rattle.std.specs.Str.{chars, encode_utf8_all}
use Rattle.std.proofs.lemmas.List.{append-nil, map-append, length-map, drop_at, take_at}
use Rattle.priz_base.specs.declared.place.Place.{Place}
use Rattle.utopist_lexer.specs.declared.token.Kind.{Kind}
use Rattle.utopist_lexer.specs.declared.token.Kind.TheVariants as kinds
use Rattle.utopist_lexer.specs.declared.token.Token.{Token}
use Rattle.utopist_lexer.specs.declared.fault.LexFault.{LexFault}
use Rattle.utopist_lexer.specs.Gap.{past_gap}
use Rattle.utopist_lexer.specs.Kinds.{same_kind}
use Rattle.utopist_lexer.specs.Places.{first_place, place_behind, Stands}
use Rattle.utopist_lexer.specs.Lexical.{Tok}
use Rattle.utopist_lexer.specs.Tokens.{ReadsTo, Reads}
use Rattle.utopist_lexer.specs.Scanning.{Scan, place_of, tok, IsNext, IsEnd, NextOf}
use Rattle.utopist_lexer.proofs.OneWay.{one_list, one_fault, not_both, stands_same}
use Rattle.token_lists.specs.TokensFrom.{TokensFrom, StopsBy}
use Rattle.token_lists.proofs.Next.{stands_behind}
use Rattle.token_lists.proofs.Readings.{one_more}
use Rattle.token_lists.proofs.Steps.{next_first, end_none, fault_none}
use Rattle.token_forms.specs.Symbols.{Symbol, symbol_at, symbol_of, symbol}
use Rattle.token_forms.specs.steps.Left.{Left}
use Rattle.token_forms.specs.steps.Ahead.{passed, tokens_left, symbols_to, symbols_left, symbols_from, left_at}
use Rattle.token_forms.specs.steps.Views.{end_at, TokensOf, StartsAs, PlaceFrom, PlaceOf, StandsAt}
use Rattle.token_forms.specs.steps.Reading.{Comes, IsAt}
use Rattle.token_forms.proofs.SameKind.{same_kind-refl}
use Rattle.token_forms.proofs.Scanning.{never_end, symbol_is}

abbrev pub Next : Type 0
Next = Option (Result Token LexFault)

-- what is next, by what it is known to be
pub is_next : (next : Next) (r known : Result Token LexFault) → next ≡ Some r → r ≡ known → next ≡ Some known
is_next next r known e h = e ∙ ap (λ (x : Result Token LexFault). Some x) h

-- ---- what is left of a text

abbrev HasPlace : Scan → Type 0
HasPlace s = (p : Place) × Stands s.whole s.left p

whole_is : (s : Scan) → HasPlace s → passed s ++ s.left ≡ s.whole
whole_is s h =
    let before = h.1.0 in
    let is : s.whole ≡ before ++ s.left = h.1.1 in
    let size : length before ≡ length s.whole - length s.left = omega (arith, ap length is, length-append before s.left) in
    ap (λ (l : List ℕ). l ++ s.left) (ap (take (length s.whole - length s.left)) is ∙ take_at before s.left (length s.whole - length s.left) size) ∙ sym is

abbrev moved : {w v left : List ℕ} → w ≡ v → TokensFrom w left → TokensFrom v left
moved {w} {v} {left} e a = record {
  tokens = a.tokens;
  fault = a.fault;
  stop = a.stop;
  read = subst (λ (u : List ℕ). ReadsTo u left a.tokens a.stop) e a.read;
  stops = subst (λ (u : List ℕ). StopsBy u a.stop a.fault) e a.stops;
}

abbrev tokens_here : (s : Scan) → HasPlace s → TokensFrom s.whole s.left
tokens_here s h = moved (whole_is s h) (tokens_left s)

-- tokens, and the end of the text where no fault stands behind them
abbrev pub up_to : List ℕ → List Tok → Option LexFault → List Tok
up_to text ts None = ts ++ end_at (place_behind first_place text) ∷ []
up_to text ts (Some f) = ts

up_to_more : (text : List ℕ) (t : Tok) (ts : List Tok) (f : Option LexFault) → up_to text (t ∷ ts) f ≡ t ∷ up_to text ts f
up_to_more text t ts None = refl
up_to_more text t ts (Some f) = refl

symbols_up_to : (text : List ℕ) (ts : List Tok) (f : Option LexFault) → symbols_to ts f ≡ map symbol_of (up_to text ts f)
symbols_up_to text ts None = sym (map-append symbol_of ts (end_at (place_behind first_place text) ∷ []))
symbols_up_to text ts (Some f) = refl

symbols_more : (t : Tok) (ts : List Tok) (f : Option LexFault) → symbols_to (t ∷ ts) f ≡ symbol_of t ∷ symbols_to ts f
symbols_more t ts None = refl
symbols_more t ts (Some f) = refl

-- ---- all tokens of a text

module _ (text left : List ℕ) (before : List Tok) (grows : (ts : List Tok) (stop : List ℕ) → ReadsTo text left ts stop → ReadsTo text text (before ++ ts) stop) where
  tokens_stop : (ts : List Tok) (f : Option LexFault) (stop : List ℕ) → ReadsTo text left ts stop → StopsBy text stop f → TokensOf text (before ++ up_to text ts f) f
  tokens_stop ts None stop r e = record {
    tokens = before ++ ts;
    place = place_behind first_place text;
    are = sym (append_assoc before ts (end_at (place_behind first_place text) ∷ []));
    read = subst (λ (l : List ℕ). ReadsTo text text (before ++ ts) l) e (grows ts stop r);
    stands = (text, sym (append-nil text), refl);
  }
  tokens_stop ts (Some f) stop r e = record { left = stop; some = e.0; read = grows ts stop r; stands = e.1; faulty = e.2 }

  tokens_are : (a : TokensFrom text left) → TokensOf text (before ++ up_to text a.tokens a.fault) a.fault
  tokens_are a = tokens_stop a.tokens a.fault a.stop a.read a.stops

-- a text has one list of tokens, and one fault behind it or none
pub one_tokens : (text : List ℕ) (ts us : List Tok) (f g : Option LexFault) → TokensOf text ts f → TokensOf text us g → (ts ≡ us) × (f ≡ g)
one_tokens text ts us None None a b =
    let tokens = one_list text a.tokens b.tokens a.read b.read in
    let place = stands_same text [] a.place b.place a.stands b.stands in
    (a.are ∙ (λ i. tokens i ++ end_at (place i) ∷ []) ∙ sym b.are, refl)
one_tokens text ts us None (Some g) a b = absurd (not_both text a.tokens us g.place g.kind a.read b)
one_tokens text ts us (Some f) None a b = absurd (not_both text b.tokens ts f.place f.kind b.read a)
one_tokens text ts us (Some f) (Some g) a b =
    let same = one_fault text ts us f.place g.place f.kind g.kind a b in
    (same.0, λ i. Some (record { place = same.1 i; kind = same.2 i }))

-- ---- where a reader stands

-- the place of what is next
abbrev pub place_found : Next → Option (Result Place LexFault)
place_found None = None
place_found (Some (Err f)) = Some (Err f)
place_found (Some (Ok t)) = Some (Ok (place_of t))

-- the tokens before what is next, and from it on
record Standing (s : Scan) (next : Next) : Type 0 where
  before : List Tok
  rest : List Tok
  fault : Option LexFault
  are : TokensOf s.whole (before ++ rest) fault
  symbols_are : (left_at s next).symbols ≡ map symbol_of rest
  first : PlaceFrom rest fault (place_found next)

if_end : (t : Token) (b : Bool) (behind : List Symbol) → same_kind t.kind kinds.End ≡ b → symbols_from (Some (Ok t)) behind ≡ symbol t ∷ cond b [] behind
if_end t b behind e = ap (λ (x : Bool). symbol t ∷ cond x [] behind) e

is_end : (t : Token) → t.kind ≡ kinds.End → same_kind t.kind kinds.End ≡ true
is_end t e = ap (λ (k : Kind). same_kind k kinds.End) e ∙ same_kind-refl kinds.End

end_is : (s : Scan) (t : Tok) (after : List ℕ) → IsEnd s t after → t ≡ end_at t.place
end_is s t after e = λ i. record { kind = e.kind i; text = e.empty i; place = t.place }

standing : (s : Scan) (next : Next) → IsAt s next → Standing s next
standing s None h = record {
  before = h.before ++ end_at (place_behind first_place s.whole) ∷ [];
  rest = [];
  fault = None;
  are = record {
    tokens = h.before;
    place = place_behind first_place s.whole;
    are = append-nil (h.before ++ end_at (place_behind first_place s.whole) ∷ []);
    read = subst (λ (l : List Tok). Reads s.whole l) (append-nil h.before) (h.grows [] [] h.comes);
    stands = (s.whole, sym (append-nil s.whole), refl);
  };
  symbols_are = refl;
  first = refl;
}
standing s (Some (Err f)) h = record {
  before = h.before;
  rest = [];
  fault = Some f;
  are = record { left = past_gap false h.from; some = h.comes.some; read = h.grows [] (past_gap false h.from) refl; stands = h.comes.place; faulty = h.comes.faulty };
  symbols_are = refl;
  first = refl;
}
standing s (Some (Ok t)) h = go h.comes where
  go : Comes (record { whole = s.whole; left = h.from }) (Some (Ok t)) s.left → Standing s (Some (Ok t))
  go (inl n, utf8) =
      let a = tokens_here s h.stands in
      let more = up_to_more s.whole (tok t) a.tokens a.fault in
      record {
        before = h.before;
        rest = tok t ∷ up_to s.whole a.tokens a.fault;
        fault = a.fault;
        are = subst (λ (l : List Tok). TokensOf s.whole (h.before ++ l) a.fault) more (tokens_are s.whole h.from h.before h.grows (one_more s.whole h.from (tok t) s.left n a));
        symbols_are = if_end t false (symbols_left s) (never_end _ (tok t) s.left n) ∙ (λ i. symbol_is t utf8 i ∷ symbols_up_to s.whole a.tokens a.fault i);
        first = refl;
      }
  go (inr e, utf8) = record {
    before = h.before;
    rest = tok t ∷ [];
    fault = None;
    are = record {
      tokens = h.before;
      place = place_of t;
      are = ap (λ (x : Tok). h.before ++ x ∷ []) (end_is _ (tok t) s.left e);
      read = subst (λ (l : List Tok). Reads s.whole l) (append-nil h.before) (h.grows [] [] e.nothing);
      stands = e.place;
    };
    symbols_are = if_end t true (symbols_left s) (is_end t e.kind) ∙ ap (λ (c : Symbol). c ∷ []) (symbol_is t utf8);
    first = refl;
  }

-- the place of what is next is that of the token at which so many symbols are left
stands_at : (s : Scan) (next : Next) → IsAt s next → StandsAt (left_at s next) (place_found next)
stands_at s next h = λ items f are.
    let w = standing s next h in
    let is = one_tokens s.whole items (w.before ++ w.rest) f w.fault are w.are in
    let n : ℕ = length (left_at s next).symbols in
    let size : n ≡ length w.rest = ap length w.symbols_are ∙ length-map w.rest symbol_of in
    let front : length w.before ≡ length (w.before ++ w.rest) - n = omega (arith, size, length-append w.before w.rest) in
    let here : PlaceOf (w.before ++ w.rest) n w.fault (place_found next) =
    subst (λ (l : List Tok). PlaceFrom l w.fault (place_found next)) (sym (drop_at w.before w.rest (length (w.before ++ w.rest) - n) front)) w.first in
    subst (λ (l : List Tok). PlaceOf l n f (place_found next)) (sym is.0) (subst (λ (g : Option LexFault). PlaceOf (w.before ++ w.rest) n g (place_found next)) (sym is.1) here)

-- the same of what a value is known to be
pub place_is : (s : Scan) (next known : Next) (now : Left) (found : Option (Result Place LexFault)) → IsAt s next → left_at s next ≡ now → next ≡ known → found ≡ place_found known → StandsAt now found
place_is s next known now found h now_is next_is found_is =
    subst (λ (l : Left). StandsAt l found) now_is (subst (StandsAt (left_at s next)) (ap place_found next_is ∙ sym found_is) (stands_at s next h))

-- ---- the next token is taken

abbrev IsText : Result Token LexFault → Type 0
IsText r = IfOk r (λ t. encode_utf8_all (chars t.text.now) ≡ t.text.now)

module _ (s : Scan) (after : List ℕ) where
  comes_next : (r : Result Token LexFault) → NextOf s r after → IsText r → Comes s (Some r) after
  comes_next (Ok t) n u = (n, u)
  comes_next (Err f) n u = n

  behind_stands : HasPlace s → (r : Result Token LexFault) → NextOf s r after → (p : Place) × Stands s.whole after p
  behind_stands h (Ok t) (inl n) = stands_behind s (tok t) after n
  behind_stands h (Ok t) (inr e) = (place_of t, subst (λ (l : List ℕ). Stands s.whole l (place_of t)) (sym e.stays) e.place)
  behind_stands h (Err f) e = subst (λ (l : List ℕ). (p : Place) × Stands s.whole l p) (sym e.stays) h

  abbrev behind : Scan
  behind = record { whole = s.whole; left = after }

  -- what was left is what is next, and what is left behind it
  taken : HasPlace s → (r : Result Token LexFault) → NextOf s r after → IsText r → symbols_from (Some r) (symbols_left behind) ≡ symbols_left s
  taken h (Ok t) (inl n) u =
      let a = tokens_here s h in
      let b = tokens_here behind (stands_behind s (tok t) after n) in
      let is = next_first s (tok t) after n a b in
      if_end t false (symbols_left behind) (never_end s (tok t) after n) ∙ ap (λ (c : Symbol). c ∷ symbols_left behind) (symbol_is t u)
      ∙ sym (symbols_more (tok t) b.tokens b.fault) ∙ (λ i. symbols_to (sym is.0 i) (sym is.1 i))
  taken h (Ok t) (inr e) u =
      let a = tokens_here s h in
      let is = end_none s (tok t) after e a in
      if_end t true (symbols_left behind) (is_end t e.kind) ∙ ap (λ (k : Kind). symbol_at k (record { text = t.text.now; place = place_of t }) ∷ []) e.kind ∙ (λ i. symbols_to (sym is.0 i) (sym is.1 i))
  taken h (Err f) e u =
      let a = tokens_here s h in
      let is = fault_none s f after e a in
      λ i. symbols_to (sym is.0 i) (sym is.1 i)

-- ---- a reader begins

module _ (text : List ℕ) (s s' : Scan) (is : s ≡ record { whole = text; left = text }) (same : s'.whole ≡ s.whole) (r : Result Token LexFault) (n : NextOf s r s'.left) (u : IsText r) where
  abbrev start : Scan
  start = record { whole = text; left = text }

  at_start : NextOf start r s'.left
  at_start = subst (λ (x : Scan). NextOf x r s'.left) is n

  start_place : HasPlace start
  start_place = (first_place, ([], refl, refl))

  now_is : behind start s'.left ≡ s'
  now_is = λ i. record { whole = sym (same ∙ ap (λ (x : Scan). x.whole) is) i; left = s'.left }

  pub begins_at : IsAt s' (Some r)
  begins_at = subst (λ (x : Scan). IsAt x (Some r)) now_is (record {
    before = [];
    from = text;
    grows = λ ts stop h. h;
    comes = comes_next start s'.left r at_start u;
    stands = behind_stands start s'.left start_place r at_start;
  })

  pub begins_as : StartsAs text (left_at s' (Some r))
  begins_as = subst (λ (x : Scan). StartsAs text (left_at x (Some r))) now_is (record {
    same = refl;
    items = up_to text (tokens_here start start_place).tokens (tokens_here start start_place).fault;
    fault = (tokens_here start start_place).fault;
    are = tokens_are text text [] (λ ts stop h. h) (tokens_here start start_place);
    symbols_are = taken start s'.left start_place r at_start u ∙ symbols_up_to text (tokens_here start start_place).tokens (tokens_here start start_place).fault;
  })

-- ---- a reader goes on

module _ (s s' : Scan) (t : Token) (h : IsAt s (Some (Ok t))) (no_end : same_kind t.kind kinds.End ≡ false) (same : s'.whole ≡ s.whole) (r : Result Token LexFault) (n : NextOf s r s'.left) (u : IsText r) where
  then_is : behind s s'.left ≡ s'
  then_is = λ i. record { whole = sym same i; left = s'.left }

  next_is : IsNext (record { whole = s.whole; left = h.from }) (tok t) s.left
  next_is = go h.comes where
    go : Comes (record { whole = s.whole; left = h.from }) (Some (Ok t)) s.left → IsNext (record { whole = s.whole; left = h.from }) (tok t) s.left
    go (inl x, utf8) = x
    go (inr e, utf8) = absurd (let never : true ≡ false = sym (is_end t e.kind) ∙ no_end in cc)

  advances_to : IsAt s' (Some r)
  advances_to = subst (λ (x : Scan). IsAt x (Some r)) then_is (record {
    before = h.before ++ tok t ∷ [];
    from = s.left;
    grows = λ ts stop m.
        subst (λ (l : List Tok). ReadsTo s.whole s.whole l stop) (sym (append_assoc h.before (tok t ∷ []) ts))
        (h.grows (tok t ∷ ts) stop (s.left, next_is.split, next_is.place, next_is.token, m));
    comes = comes_next s s'.left r n u;
    stands = behind_stands s s'.left h.stands r n;
  })

  advances_by : (left_at s' (Some r)).symbols ≡ drop 1 (left_at s (Some (Ok t))).symbols
  advances_by = ap (λ (x : Scan). (left_at x (Some r)).symbols) (sym then_is) ∙ taken s s'.left h.stands r n u ∙ sym (ap (drop 1) (if_end t false (symbols_left s) no_end))

-- the same of what a value is known to be
module _ (s s' : Scan) (next : Next) (now : Left) (t : Token) (h : IsAt s next) (now_is : left_at s next ≡ now) (known : next ≡ Some (Ok t)) (no_end : false ≡ same_kind t.kind kinds.End) (same : s'.whole ≡ s.whole) (r : Result Token LexFault) (n : NextOf s r s'.left) (u : IsText r) where
  pub goes_to : IsAt s' (Some r)
  goes_to = advances_to s s' t (subst (IsAt s) known h) (sym no_end) same r n u

  pub goes_by : (left_at s' (Some r)).symbols ≡ drop 1 now.symbols
  goes_by = advances_by s s' t (subst (IsAt s) known h) (sym no_end) same r n u ∙ ap (λ (x : Next). drop 1 (left_at s x).symbols) (sym known) ∙ ap (λ (l : Left). drop 1 l.symbols) now_is

-- the end is passed
pub ends_at : (s : Scan) (t : Token) → IsAt s (Some (Ok t)) → same_kind t.kind kinds.End ≡ true → IsAt s None
ends_at s t h an_end = record { before = h.before; from = h.from; grows = h.grows; comes = go h.comes; stands = h.stands } where
  go : Comes (record { whole = s.whole; left = h.from }) (Some (Ok t)) s.left → past_gap false h.from ≡ []
  go (inl n, utf8) = absurd (let never : true ≡ false = sym an_end ∙ never_end _ (tok t) s.left n in cc)
  go (inr e, utf8) = e.nothing

pub ends_by : (s : Scan) (t : Token) → same_kind t.kind kinds.End ≡ true → (left_at s None).symbols ≡ drop 1 (left_at s (Some (Ok t))).symbols
ends_by s t an_end = sym (ap (drop 1) (if_end t true (symbols_left s) an_end))
