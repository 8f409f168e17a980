-- A text is read in one way.
use Rattle.std.proofs.Common.{◌≡◌, ℕ, ◌<◌, true, false, List, [], ◌∷◌, ◌++◌, length, Option, Some, refl, sym, ap, subst, ◌∙◌, arith, append_assoc, inl, inr, ⊎_elim}
use Rattle.std.specs.Prelude.{◌⊎◌, ℤ}
use Rattle.std.specs.Char.{is_ascii_digit}
use Rattle.std.specs.Str.{encode_utf8_all}
use Rattle.std.proofs.lemmas.Bool.{and_parts, both_ways}
use Rattle.std.proofs.lemmas.List.{append-nil, append_cancel_left, append_cancel_right}
use Rattle.priz_base.specs.declared.place.Place.{Place}
use Rattle.utopist_lexer.specs.declared.word.Word.{Word}
use Rattle.utopist_lexer.specs.declared.mark.Mark.{Mark}
use Rattle.utopist_lexer.specs.declared.token.Kind.{Kind}
use Rattle.utopist_lexer.specs.declared.token.Kind.TheVariants as kinds
use Rattle.utopist_lexer.specs.declared.fault.LexKind.{LexKind}
use Rattle.utopist_lexer.specs.declared.fault.LexKind.TheVariants as fault
use Rattle.utopist_lexer.specs.Gap.{past_gap}
use Rattle.utopist_lexer.specs.Places.{first_place, place_behind, Stands}
use Rattle.utopist_lexer.specs.Lexical.{Tok, AreDigits, Spells, IsLongest, IsFree, IsNumeral, Within, IsToken, max_number}
use Rattle.utopist_lexer.specs.Faults.{Front, Faulty, IsLoneDollar}
use Rattle.utopist_lexer.specs.Tokens.{ReadsTo}
use Rattle.utopist_lexer.specs.steps.Tables.{word_of, front_mark}
use Rattle.utopist_lexer.specs.OneReading.{OneList, OneFault, NotBoth}
use Rattle.utopist_lexer.specs.Spelling.{word_text, mark_text}
use Rattle.utopist_lexer.proofs.Splits.{Splits, fronts_split}
use Rattle.utopist_lexer.proofs.Spellings.{word_of-text, mark_at-text}
use Rattle.utopist_lexer.proofs.Leads.{lead, lead_of, dollar_lead, spells_lead, spells_something, dollar_sub}
use Rattle.utopist_lexer.proofs.Outputs.{subs_same}

-- ---- kinds

some_same : {X : Type 0} (x y : X) → ◌≡◌ {A = Option X} (Some x) (Some y) → x ≡ y
some_same x y e = cc

word_same : (v w : Word) → word_text v ≡ word_text w → v ≡ w
word_same v w e = some_same v w (sym (word_of-text v) ∙ ap word_of e ∙ word_of-text w)

mark_same : (m n : Mark) → mark_text m ≡ mark_text n → m ≡ n
mark_same m n e = some_same m n (sym (mark_at-text m) ∙ ap front_mark e ∙ mark_at-text n)

kind_at : (k j : Kind) (text : List ℕ) → lead_of k ≡ lead_of j → Spells k text → Spells j text → k ≡ j
kind_at kinds.Name kinds.Name text e s r = refl
kind_at kinds.Name (kinds.Word w) text e s r = absurd (s.1 w r)
kind_at (kinds.Word v) kinds.Name text e s r = absurd (r.1 v s)
kind_at (kinds.Word v) (kinds.Word w) text e s r = ap (λ (x : Word). kinds.Word x) (word_same v w (sym s ∙ r))
kind_at (kinds.Number i) (kinds.Number j) text e s r = ap (λ (x : ℤ). kinds.Number x) (s.1 ∙ sym r.1)
kind_at (kinds.Sub i a) (kinds.Sub j b) text e s r = subs_same i j a b text s r
kind_at (kinds.Mark m) (kinds.Mark n) text e s r = ap (λ (x : Mark). kinds.Mark x) (mark_same m n (sym s ∙ r))
kind_at kinds.End j text e s r = absurd s
kind_at k kinds.End text e s r = absurd r
kind_at k j text e s r = absurd cc

-- characters spell one kind
kind_same : (k j : Kind) (text : List ℕ) → Spells k text → Spells j text → k ≡ j
kind_same k j [] s r = absurd (spells_something k s)
kind_same k j (c ∷ cs) s r = kind_at k j (c ∷ cs) (sym (spells_lead k c cs s) ∙ spells_lead j c cs r) s r

-- ---- fronts

longest_at : (k j : Kind) (t r u s : List ℕ) → IsLongest k t r → IsLongest j u s → Splits t r u s → t ≡ u
longest_at k j t r u s a b split =
    let none = a.longest split.0 s j split.2 (subst (Spells j) split.1 b.spelled) in
    sym (append-nil t) ∙ ap (λ (l : List ℕ). t ++ l) (sym none) ∙ sym split.1

-- characters have one longest front
longest_same : (k j : Kind) (t r u s : List ℕ) → IsLongest k t r → IsLongest j u s → t ++ r ≡ u ++ s → t ≡ u
longest_same k j t r u s a b e = ⊎_elim (λ x. longest_at k j t r u s a b x) (λ x. sym (longest_at j k u s t r b a x)) (fronts_split t r u s e)

rest_same : (t r u s : List ℕ) → t ++ r ≡ u ++ s → t ≡ u → r ≡ s
rest_same t r u s e same = append_cancel_left t r s (e ∙ ap (λ (l : List ℕ). l ++ s) (sym same))

front_kinds : (k j : Kind) (t r u s : List ℕ) → IsLongest k t r → IsLongest j u s → t ≡ u → k ≡ j
front_kinds k j t r u s a b same = kind_same k j t a.spelled (subst (Spells j) (sym same) b.spelled)

-- ---- tokens and faults exclude each other

lone_digits : (cs rest digits : List ℕ) → IsLoneDollar cs → cs ≡ (36 ∷ digits) ++ rest → AreDigits digits → ⊥
lone_digits cs rest [] l e d = absurd (omega (arith, d.0))
lone_digits [] rest (b ∷ bs) l e d = l
lone_digits (a ∷ []) rest (b ∷ bs) l e d = absurd cc
lone_digits (a ∷ c ∷ cs) rest (b ∷ bs) l e d = let same : b ≡ c = cc in both_ways (is_ascii_digit c) l.1 (subst (λ x. is_ascii_digit x ≡ true) same (and_parts _ _ d.1).0)

lone_first : (cs rest : List ℕ) (c : ℕ) (t : List ℕ) → IsLoneDollar cs → cs ≡ (c ∷ t) ++ rest → c ≡ 36
lone_first [] rest c t l e = absurd l
lone_first (a ∷ []) rest c t l e = cc
lone_first (a ∷ b ∷ cs) rest c t l e = cc (l.0)

-- no token stands at a lone $
lone_none : (cs : List ℕ) (k : Kind) (t rest : List ℕ) → IsLoneDollar cs → cs ≡ t ++ rest → Spells k t → ⊥
lone_none cs k [] rest l e s = spells_something k s
lone_none cs k (c ∷ t) rest l e s =
    let first = lone_first cs rest c t l e in
    let d = (dollar_sub k (c ∷ t) (sym (spells_lead k c t s) ∙ ap lead first ∙ dollar_lead) s).2 in
    lone_digits cs (d.behind ++ rest) d.digits l (e ∙ ap (λ (x : List ℕ). x ++ rest) d.are ∙ ap (λ (x : List ℕ). 36 ∷ x) (append_assoc d.digits d.behind rest)) d.some

module _ (cs : List ℕ) (x y : Front cs) where
  texts_same : x.text ≡ y.text
  texts_same = longest_same x.kind y.kind x.text x.rest y.text y.rest x.longest y.longest (sym x.split ∙ y.split)

  kinds_same : x.kind ≡ y.kind
  kinds_same = front_kinds x.kind y.kind x.text x.rest y.text y.rest x.longest y.longest texts_same

  rests_same : x.rest ≡ y.rest
  rests_same = rest_same x.text x.rest y.text y.rest (sym x.split ∙ y.split) texts_same

name_number : (cs : List ℕ) (x y : Front cs) (n : ℕ) → x.kind ≡ kinds.Name → IsNumeral y.kind n → ⊥
name_number cs x y n is num = subst (λ k. IsNumeral k n) (sym (kinds_same cs x y) ∙ is) num

free_or_not : (cs : List ℕ) (x y : Front cs) → (IsFree x.rest → ⊥) → IsFree y.rest → ⊥
free_or_not cs x y f g = f (subst IsFree (sym (rests_same cs x y)) g)

-- a fault has one kind
fault_same : (j k : LexKind) (cs : List ℕ) → Faulty j cs → Faulty k cs → j ≡ k
fault_same fault.NameTooLong fault.NameTooLong cs f g = refl
fault_same fault.NameTooLong fault.BadNumber cs f (inl l) = absurd (lone_none cs f.0.kind f.0.text f.0.rest l f.0.split f.0.longest.spelled)
fault_same fault.NameTooLong fault.BadNumber cs f (inr y) = absurd (name_number cs f.0 y.0 y.1 f.1 y.2)
fault_same fault.NameTooLong fault.NumberTooWide cs f g = absurd (name_number cs f.0 g.0 g.1 f.1 g.2)
fault_same fault.NameTooLong fault.BadChar cs f g = absurd (g.1 f.0.kind f.0.text f.0.rest f.0.split f.0.longest.spelled)
fault_same fault.BadNumber fault.NameTooLong cs (inl l) g = absurd (lone_none cs g.0.kind g.0.text g.0.rest l g.0.split g.0.longest.spelled)
fault_same fault.BadNumber fault.NameTooLong cs (inr x) g = absurd (name_number cs g.0 x.0 x.1 g.1 x.2)
fault_same fault.BadNumber fault.BadNumber cs f g = refl
fault_same fault.BadNumber fault.NumberTooWide cs (inl l) g = absurd (lone_none cs g.0.kind g.0.text g.0.rest l g.0.split g.0.longest.spelled)
fault_same fault.BadNumber fault.NumberTooWide cs (inr x) g = absurd (free_or_not cs x.0 g.0 x.3 g.3)
fault_same fault.BadNumber fault.BadChar cs (inl l) g = absurd (g.0 l)
fault_same fault.BadNumber fault.BadChar cs (inr x) g = absurd (g.1 x.0.kind x.0.text x.0.rest x.0.split x.0.longest.spelled)
fault_same fault.NumberTooWide fault.NameTooLong cs f g = absurd (name_number cs g.0 f.0 f.1 g.1 f.2)
fault_same fault.NumberTooWide fault.BadNumber cs f (inl l) = absurd (lone_none cs f.0.kind f.0.text f.0.rest l f.0.split f.0.longest.spelled)
fault_same fault.NumberTooWide fault.BadNumber cs f (inr y) = absurd (free_or_not cs y.0 f.0 y.3 f.3)
fault_same fault.NumberTooWide fault.NumberTooWide cs f g = refl
fault_same fault.NumberTooWide fault.BadChar cs f g = absurd (g.1 f.0.kind f.0.text f.0.rest f.0.split f.0.longest.spelled)
fault_same fault.BadChar fault.NameTooLong cs f g = absurd (f.1 g.0.kind g.0.text g.0.rest g.0.split g.0.longest.spelled)
fault_same fault.BadChar fault.BadNumber cs f (inl l) = absurd (f.0 l)
fault_same fault.BadChar fault.BadNumber cs f (inr y) = absurd (f.1 y.0.kind y.0.text y.0.rest y.0.split y.0.longest.spelled)
fault_same fault.BadChar fault.NumberTooWide cs f g = absurd (f.1 g.0.kind g.0.text g.0.rest g.0.split g.0.longest.spelled)
fault_same fault.BadChar fault.BadChar cs f g = refl

-- no token stands here
abbrev pub NoToken : List ℕ → Type 0
NoToken cs = (k : Kind) (t rest : List ℕ) → cs ≡ t ++ rest → IsToken k t rest → ⊥

token_numeral : (k : Kind) (t rest : List ℕ) (n : ℕ) → IsNumeral k n → Within k t rest → IsFree rest × (max_number < n → ⊥)
token_numeral kinds.Name t rest n h w = absurd h
token_numeral (kinds.Word v) t rest n h w = absurd h
token_numeral (kinds.Number i) t rest n h w = (w.0, λ wide. omega (arith, w.1 n h, wide))
token_numeral (kinds.Sub i j) t rest n h w = (w.0, λ wide. omega (arith, w.1 n h, wide))
token_numeral (kinds.Mark m) t rest n h w = absurd h
token_numeral kinds.End t rest n h w = absurd h

abbrev token_front : (cs : List ℕ) (k : Kind) (t rest : List ℕ) → cs ≡ t ++ rest → IsToken k t rest → Front cs
token_front cs k t rest e token = record { kind = k; text = t; rest = rest; split = e; longest = token.longest }

numeral_token : (cs : List ℕ) (x : Front cs) (n : ℕ) → IsNumeral x.kind n → (k : Kind) (t rest : List ℕ) → cs ≡ t ++ rest → IsToken k t rest → IsFree x.rest × (max_number < n → ⊥)
numeral_token cs x n num k t rest e token =
    let y = token_front cs k t rest e token in
    let w = token_numeral k t rest n (subst (λ j. IsNumeral j n) (kinds_same cs x y) num) token.within in
    (subst IsFree (sym (rests_same cs x y)) w.0, w.1)

-- where a fault is, no token stands
pub none_at_fault : (j : LexKind) (cs : List ℕ) → Faulty j cs → NoToken cs
none_at_fault fault.NameTooLong cs f k t rest e token =
    let y = token_front cs k t rest e token in
    let within = subst (λ j. Within j t rest) (sym (kinds_same cs f.0 y) ∙ f.1) token.within in
    omega (arith, f.2, within, ap (λ (l : List ℕ). length (encode_utf8_all l)) (texts_same cs f.0 y))
none_at_fault fault.BadNumber cs (inl l) k t rest e token = lone_none cs k t rest l e token.longest.spelled
none_at_fault fault.BadNumber cs (inr x) k t rest e token = x.3 (numeral_token cs x.0 x.1 x.2 k t rest e token).0
none_at_fault fault.NumberTooWide cs f k t rest e token = (numeral_token cs f.0 f.1 f.2 k t rest e token).1 f.4
none_at_fault fault.BadChar cs f k t rest e token = f.1 k t rest e token.longest.spelled

pub none_at_end : NoToken []
none_at_end k [] rest e token = spells_something k token.longest.spelled
none_at_end k (c ∷ t) rest e token = absurd cc

-- ---- readings

pub stands_same : (whole rest : List ℕ) (p q : Place) → Stands whole rest p → Stands whole rest q → p ≡ q
stands_same whole rest p q a b = a.2 ∙ ap (place_behind first_place) (append_cancel_right a.0 b.0 rest (sym a.1 ∙ b.1)) ∙ sym b.2

token_is : (t u : Tok) → t.kind ≡ u.kind → t.text ≡ u.text → t.place ≡ u.place → t ≡ u
token_is t u a b c = λ i. record { kind = a i; text = b i; place = c i }

-- two tokens at the front of the same characters are one, and the same follows them
pub one_token : (whole cs : List ℕ) (t u : Tok) (x y : List ℕ) → cs ≡ t.text ++ x → cs ≡ u.text ++ y → Stands whole cs t.place → Stands whole cs u.place → IsToken t.kind t.text x → IsToken u.kind u.text y → (t ≡ u) × (x ≡ y)
one_token whole cs t u x y a b p q r s =
    let split : t.text ++ x ≡ u.text ++ y = sym a ∙ b in
    let text = longest_same t.kind u.kind t.text x u.text y r.longest s.longest split in
    let kind = front_kinds t.kind u.kind t.text x u.text y r.longest s.longest text in
    (token_is t u kind text (stands_same whole cs t.place u.place p q), rest_same t.text x u.text y split text)

-- the first of two readings stops where the second has one more token
pub record StopsInside (whole : List ℕ) (ts us : List Tok) (stop : List ℕ) : Type 0 where
  pub token : Tok
  pub more : List Tok
  pub rest : List ℕ
  pub longer : us ≡ ts ++ token ∷ more
  pub split : stop ≡ token.text ++ rest
  pub stands : Stands whole stop token.place
  pub is_token : IsToken token.kind token.text rest

-- two readings stop together, or one of them stops inside the other
abbrev pub Meet : List ℕ → List Tok → List Tok → List ℕ → List ℕ → Type 0
Meet whole ts us x y = ((ts ≡ us) × (x ≡ y)) ⊎ (StopsInside whole ts us x ⊎ StopsInside whole us ts y)

-- a reading of no token stops inside each longer one
inside_first : (whole left : List ℕ) (u : Tok) (us : List Tok) (x y : List ℕ) → ReadsTo whole left [] x → ReadsTo whole left (u ∷ us) y → StopsInside whole [] (u ∷ us) x
inside_first whole left u us x y r s = record { token = u; more = us; rest = s.0; longer = refl; split = sym r ∙ s.1; stands = subst (λ (l : List ℕ). Stands whole l u.place) r s.2; is_token = s.3 }

-- one more token in front of both changes nothing
inside_more : (whole : List ℕ) (t u : Tok) (ts us : List Tok) (x : List ℕ) → t ≡ u → StopsInside whole ts us x → StopsInside whole (t ∷ ts) (u ∷ us) x
inside_more whole t u ts us x same i = record { token = i.token; more = i.more; rest = i.rest; longer = λ j. sym same j ∷ i.longer j; split = i.split; stands = i.stands; is_token = i.is_token }

-- and so for how two readings meet
meet_more : (whole : List ℕ) (t u : Tok) (ts us : List Tok) (x y : List ℕ) → t ≡ u → Meet whole ts us x y → Meet whole (t ∷ ts) (u ∷ us) x y
meet_more whole t u ts us x y same (inl e) = inl ((λ i. same i ∷ e.0 i), e.1)
meet_more whole t u ts us x y same (inr (inl i)) = inr (inl (inside_more whole t u ts us x same i))
meet_more whole t u ts us x y same (inr (inr i)) = inr (inr (inside_more whole u t us ts y (sym same) i))

-- of two readings one is a front of the other
pub reads_meet : (whole left : List ℕ) (ts us : List Tok) (x y : List ℕ) → ReadsTo whole left ts x → ReadsTo whole left us y → Meet whole ts us x y
reads_meet whole left [] [] x y r s = inl (refl, sym r ∙ s)
reads_meet whole left [] (u ∷ us) x y r s = inr (inl (inside_first whole left u us x y r s))
reads_meet whole left (t ∷ ts) [] x y r s = inr (inr (inside_first whole left t ts y x s r))
reads_meet whole left (t ∷ ts) (u ∷ us) x y r s =
    let same = one_token whole (past_gap false left) t u r.0 s.0 r.1 s.1 r.2 s.2 r.3 s.3 in
    meet_more whole t u ts us x y same.0 (reads_meet whole r.0 ts us x y r.4 (subst (λ (l : List ℕ). ReadsTo whole l us y) (sym same.1) s.4))

-- no reading goes on where no token stands
pub none_inside : (whole : List ℕ) (ts us : List Tok) (x : List ℕ) → NoToken x → StopsInside whole ts us x → ⊥
none_inside whole ts us x none i = none i.token.kind i.token.text i.rest i.split i.is_token

-- where no token stands at either stop, both readings stop together
same_stops : (whole : List ℕ) (ts us : List Tok) (x y : List ℕ) → NoToken x → NoToken y → Meet whole ts us x y → (ts ≡ us) × (x ≡ y)
same_stops whole ts us x y nx ny (inl e) = e
same_stops whole ts us x y nx ny (inr (inl i)) = absurd (none_inside whole ts us x nx i)
same_stops whole ts us x y nx ny (inr (inr i)) = absurd (none_inside whole us ts y ny i)

-- two readings up to where no token stands are the same
pub reads_same : (whole left : List ℕ) (ts us : List Tok) (x y : List ℕ) → ReadsTo whole left ts x → ReadsTo whole left us y → NoToken x → NoToken y → (ts ≡ us) × (x ≡ y)
reads_same whole left ts us x y r s nx ny = same_stops whole ts us x y nx ny (reads_meet whole left ts us x y r s)

pub one_list : (text : List ℕ) → OneList text
one_list text ts us r s = (reads_same text text ts us [] [] r s none_at_end none_at_end).0

pub one_fault : (text : List ℕ) → OneFault text
one_fault text ts us p q j k f g =
    let same = reads_same text text ts us f.left g.left f.read g.read (none_at_fault j f.left f.faulty) (none_at_fault k g.left g.faulty) in
    (same.0, stands_same text g.left p q (subst (λ (l : List ℕ). Stands text l p) same.1 f.stands) g.stands, fault_same j k g.left (subst (Faulty j) same.1 f.faulty) g.faulty)

pub not_both : (text : List ℕ) → NotBoth text
not_both text ts us p k r f = f.some (sym (reads_same text text ts us [] f.left r f.read none_at_end (none_at_fault k f.left f.faulty)).1)
