-- What comes next, among all tokens of what is left.
use Rattle.std.proofs.Common.{◌≡◌, ◌≢◌, ℕ, Bool, true, false, cond, eqb, not, List, [], ◌∷◌, Option, Some, None, refl, sym, ap, subst, ◌∙◌}
use Rattle.utopist_lexer.specs.declared.fault.LexKind.{LexKind}
use Rattle.utopist_lexer.specs.declared.fault.LexFault.{LexFault}
use Rattle.utopist_lexer.specs.Characters.{is_blank}
use Rattle.utopist_lexer.specs.Gap.{past_gap}
use Rattle.utopist_lexer.specs.Places.{first_place}
use Rattle.utopist_lexer.specs.Lexical.{Tok}
use Rattle.utopist_lexer.specs.Faults.{Faulty}
use Rattle.utopist_lexer.specs.Tokens.{ReadsTo, FaultAt}
use Rattle.utopist_lexer.specs.Scanning.{Scan}
use Rattle.utopist_lexer.proofs.OneWay.{NoToken, none_at_end, none_at_fault, reads_same, stands_same, one_fault}
use Rattle.token_lists.specs.TokensFrom.{StopsBy, OneListFrom, NextIsFirst, EndHasNone, FaultHasNone}
use Rattle.token_lists.proofs.Readings.{one_more, at_end, at_fault}

-- ---- behind a gap is no gap

settled_at : (c : ℕ) (cs : List ℕ) (b d : Bool) → is_blank c ≡ b → eqb c 35 ≡ d → past_gap false (past_gap false cs) ≡ past_gap false cs → past_gap false (past_gap true cs) ≡ past_gap true cs
    → past_gap false (cond b (past_gap false cs) (cond d (past_gap true cs) (c ∷ cs))) ≡ cond b (past_gap false cs) (cond d (past_gap true cs) (c ∷ cs))
settled_at c cs true d e f x y = x
settled_at c cs false true e f x y = y
settled_at c cs false false e f x y = rw (e, f) refl

settled : (inside : Bool) (cs : List ℕ) → past_gap false (past_gap inside cs) ≡ past_gap inside cs
settled inside [] = refl
settled true (c ∷ cs) = settled (not (eqb c 10)) cs
settled false (c ∷ cs) = settled_at c cs (is_blank c) (eqb c 35) refl refl (settled false cs) (settled true cs)

settled_stop : (whole left : List ℕ) (ts : List Tok) (stop : List ℕ) → ReadsTo whole left ts stop → past_gap false stop ≡ stop
settled_stop whole left [] stop r = ap (past_gap false) (sym r) ∙ settled false left ∙ r
settled_stop whole left (t ∷ ts) stop r = settled_stop whole r.0 ts stop r.4

-- ---- one list, and one fault behind it

-- some characters have one kind of fault
fault_kind : (cs : List ℕ) (j k : LexKind) → past_gap false cs ≡ cs → cs ≢ [] → Faulty j cs → Faulty k cs → j ≡ k
fault_kind cs j k e some f g = (one_fault cs [] [] first_place first_place j k (at f) (at g)).2 where
  at : {i : LexKind} → Faulty i cs → FaultAt cs [] first_place i
  at h = record { left = cs; some = some; read = e; stands = ([], refl, refl); faulty = h }

fault_is : (f g : LexFault) → f.place ≡ g.place → f.kind ≡ g.kind → f ≡ g
fault_is f g a b = λ i. record { place = a i; kind = b i }

-- where tokens stop, none stands
none_at_stop : (whole stop : List ℕ) (f : Option LexFault) → StopsBy whole stop f → NoToken stop
none_at_stop whole stop None e = subst NoToken (sym e) none_at_end
none_at_stop whole stop (Some f) e = none_at_fault f.kind stop e.2

-- they stop for one reason
one_stop : (whole stop : List ℕ) (f g : Option LexFault) → past_gap false stop ≡ stop → StopsBy whole stop f → StopsBy whole stop g → f ≡ g
one_stop whole stop None None s a b = refl
one_stop whole stop None (Some g) s a b = absurd (b.0 a)
one_stop whole stop (Some f) None s a b = absurd (a.0 b)
one_stop whole stop (Some f) (Some g) s a b = ap (λ (x : LexFault). Some x) (fault_is f g (stands_same whole stop f.place g.place a.1 b.1) (fault_kind stop f.kind g.kind s a.0 a.2 b.2))

pub one_from : (whole left : List ℕ) → OneListFrom whole left
one_from whole left a b =
    let same = reads_same whole left a.tokens b.tokens a.stop b.stop a.read b.read (none_at_stop whole a.stop a.fault a.stops) (none_at_stop whole b.stop b.fault b.stops) in
    (same.0, one_stop whole b.stop a.fault b.fault (settled_stop whole left b.tokens b.stop b.read) (subst (λ (l : List ℕ). StopsBy whole l a.fault) same.1 a.stops) b.stops)

-- ---- steps

pub next_first : (s : Scan) → NextIsFirst s
next_first s t after n a b = one_from s.whole s.left a (one_more s.whole s.left t after n b)

pub end_none : (s : Scan) → EndHasNone s
end_none s t after e a = one_from s.whole s.left a (at_end s.whole s.left t after e)

pub fault_none : (s : Scan) → FaultHasNone s
fault_none s f after e a = one_from s.whole s.left a (at_fault s.whole s.left f after e)
