-- The longest token at the front of some characters.
use Rattle.std.proofs.Common.{◌≡◌, ℕ, ◌<◌, Bool, true, false, List, [], ◌∷◌, ◌++◌, length, Some, None, refl, sym, ap, subst, ◌∙◌, arith, append_assoc, length-append, inl, inr}
use Rattle.std.specs.Prelude.{ℤ}
use Rattle.std.specs.Char.{is_ascii_digit}
use Rattle.std.specs.List.{list_all}
use Rattle.std.specs.Str.{chars, encode_utf8_all}
use Rattle.std.proofs.lemmas.Bool.{and_parts, and_from, both_ways}
use Rattle.std.proofs.lemmas.List.{nil_from_length, append-nil}
use Rattle.std.proofs.lemmas.List.Folds.{list_all-append}
use Rattle.std.proofs.lemmas.Str.{encodes-append, encodes-IsAscii}
use Rattle.utopist_lexer.specs.declared.mark.Mark.{Mark}
use Rattle.utopist_lexer.specs.declared.classes.Class.TheVariants as classes
use Rattle.utopist_lexer.specs.declared.token.Kind.{Kind}
use Rattle.utopist_lexer.specs.Characters.{is_start, is_continue, has}
use Rattle.utopist_lexer.specs.Spelling.{mark_text}
use Rattle.utopist_lexer.specs.Lexical.{IsIdentifier, AreDigits, SpellsOutput, Spells}
use Rattle.utopist_lexer.specs.Faults.{IsLoneDollar}
use Rattle.utopist_lexer.specs.steps.Tables.{front_mark}
use Rattle.utopist_lexer.specs.Cutting.{StopsAt, IsRun, IsUndotted}
use Rattle.utopist_lexer.proofs.CharacterFacts.{start_continues}
use Rattle.utopist_lexer.proofs.Spellings.{mark_greatest, mark_found}
use Rattle.utopist_lexer.proofs.Leads.{other, lead, letter_lead, digit_lead, dollar_lead, spells_lead, spells_something, letter_identifier, digit_digits, dollar_sub, other_mark, mark_ascii}
use Rattle.utopist_lexer.proofs.Outputs.{runs_same, output_stops}

-- ---- runs

-- where the first character passes, a run is not empty
pub run_starts : (p : ℕ → Bool) (c : ℕ) (cs front rest : List ℕ) → p c ≡ true → c ∷ cs ≡ front ++ rest → IsRun p front rest → (ds : List ℕ) × (front ≡ c ∷ ds)
run_starts p c cs [] rest h e r = absurd (both_ways (p c) (subst (StopsAt p) (sym e) r.stops) h)
run_starts p c cs (d ∷ ds) rest h e r = (ds, let same : d ≡ c = cc in ap (λ (x : ℕ). x ∷ ds) same)

-- what goes on behind a run would pass
run_done : (p : ℕ → Bool) (front rest more after : List ℕ) → IsRun p front rest → rest ≡ more ++ after → list_all p (front ++ more) ≡ true → more ≡ []
run_done p front rest [] after r e all = refl
run_done p front rest (d ∷ ds) after r e all =
    let stops : p d ≡ false = subst (StopsAt p) e r.stops in
    let passes = (and_parts _ _ (sym (list_all-append p front (d ∷ ds)) ∙ all)).1 in
    absurd (both_ways (p d) stops (and_parts (p d) (list_all p ds) passes).0)

-- ---- identifiers

identifier_continues : (c : ℕ) (cs : List ℕ) → IsIdentifier (c ∷ cs) → list_all is_continue (c ∷ cs) ≡ true
identifier_continues c cs i = and_from _ _ (start_continues c i.0) i.1

module _ (c : ℕ) (cs front rest : List ℕ) (starts : is_start c ≡ true) (split : c ∷ cs ≡ front ++ rest) (run : IsRun (has classes.Identifier) front rest) where
  abbrev first : (ds : List ℕ) × (front ≡ c ∷ ds)
  first = run_starts (has classes.Identifier) c cs front rest (start_continues c starts) split run

  pub identifier_front : IsIdentifier front
  identifier_front =
      let f = first in subst IsIdentifier (sym f.1) (starts, (and_parts (is_continue c) (list_all is_continue f.0) (subst (λ (l : List ℕ). list_all is_continue l ≡ true) f.1 run.passes)).1)

  pub identifier_longest : (more after : List ℕ) (k : Kind) → rest ≡ more ++ after → Spells k (front ++ more) → more ≡ []
  identifier_longest more after k e s =
      let f = first in
      let there : Spells k (c ∷ (f.0 ++ more)) = subst (λ (l : List ℕ). Spells k (l ++ more)) f.1 s in
      let i = letter_identifier k (c ∷ (f.0 ++ more)) (sym (spells_lead k c (f.0 ++ more) there) ∙ letter_lead c starts) there in
      run_done is_continue front rest more after run e (subst (λ (l : List ℕ). list_all is_continue (l ++ more) ≡ true) (sym f.1) (identifier_continues c (f.0 ++ more) i))

-- ---- numbers

module _ (c : ℕ) (cs front rest : List ℕ) (starts : is_ascii_digit c ≡ true) (split : c ∷ cs ≡ front ++ rest) (run : IsRun (has classes.Digits) front rest) where
  abbrev first_digit : (ds : List ℕ) × (front ≡ c ∷ ds)
  first_digit = run_starts (has classes.Digits) c cs front rest starts split run

  pub number_front : AreDigits front
  number_front = let f = first_digit in (subst (λ (l : List ℕ). 0 < length l) (sym f.1) (omega arith), run.passes)

  pub number_longest : (more after : List ℕ) (k : Kind) → rest ≡ more ++ after → Spells k (front ++ more) → more ≡ []
  number_longest more after k e s =
      let f = first_digit in
      let there : Spells k (c ∷ (f.0 ++ more)) = subst (λ (l : List ℕ). Spells k (l ++ more)) f.1 s in
      let d = digit_digits k (c ∷ (f.0 ++ more)) (sym (spells_lead k c (f.0 ++ more) there) ∙ digit_lead c starts) there in
      run_done is_ascii_digit front rest more after run e (subst (λ (l : List ℕ). list_all is_ascii_digit (l ++ more) ≡ true) (sym f.1) d.1)

-- ---- $ and a number

-- what goes on behind digits would be digits, or a dot and digits
undotted_longest : (digits rest : List ℕ) → IsRun (has classes.Digits) digits rest → IsUndotted rest → (more after : List ℕ) → rest ≡ more ++ after → (out : ℤ) (ds behind : List ℕ) → digits ++ more ≡ ds ++ behind → AreDigits ds → SpellsOutput out behind → more ≡ []
undotted_longest digits rest run bare [] after e out ds behind are some o = refl
undotted_longest digits rest run bare (m ∷ ms) after e out ds behind are some (inl x) =
    let all : digits ++ (m ∷ ms) ≡ ds = are ∙ ap (λ (l : List ℕ). ds ++ l) x.0 ∙ append-nil ds in
    run_done is_ascii_digit digits rest (m ∷ ms) after run e (subst (λ (l : List ℕ). list_all is_ascii_digit l ≡ true) (sym all) some.1)
undotted_longest digits rest run bare (m ∷ ms) after e out ds behind are some (inr x) =
    let same = runs_same is_ascii_digit digits ds (m ∷ ms) behind run.passes some.1 (subst (StopsAt is_ascii_digit) e run.stops) (output_stops out behind (inr x)) are in
    absurd (bare x.0 after (e ∙ ap (λ (l : List ℕ). l ++ after) (same.1 ∙ x.1)) x.2)

-- no longer token stands there where behind the digits no dot with digits stands
pub sub_longest : (digits rest : List ℕ) → IsRun (has classes.Digits) digits rest → IsUndotted rest → (more after : List ℕ) (k : Kind) → rest ≡ more ++ after → Spells k ((36 ∷ digits) ++ more) → more ≡ []
sub_longest digits rest run bare more after k e s =
    let d = dollar_sub k (36 ∷ (digits ++ more)) (sym (spells_lead k 36 (digits ++ more) s) ∙ dollar_lead) s in
    let whole : 36 ∷ (digits ++ more) ≡ 36 ∷ (d.2.digits ++ d.2.behind) = d.2.are in
    let are : digits ++ more ≡ d.2.digits ++ d.2.behind = cc in
    undotted_longest digits rest run bare more after e d.1 d.2.digits d.2.behind are d.2.some d.2.output

-- what goes on behind a dot and digits would be digits
dotted_done : (digits es rest more after : List ℕ) → list_all is_ascii_digit digits ≡ true → IsRun (has classes.Digits) es rest → rest ≡ more ++ after → (out : ℤ) (ds behind : List ℕ) → digits ++ (46 ∷ (es ++ more)) ≡ ds ++ behind → AreDigits ds → SpellsOutput out behind → more ≡ []
dotted_done digits es rest more after all run e out ds behind are some o = go o (runs_same is_ascii_digit digits ds (46 ∷ (es ++ more)) behind all some.1 refl (output_stops out behind o) are).1 where
  go : SpellsOutput out behind → 46 ∷ (es ++ more) ≡ behind → more ≡ []
  go (inl x) same = let none : 46 ∷ (es ++ more) ≡ [] = same ∙ x.0 in absurd cc
  go (inr x) same =
      let both : 46 ∷ (es ++ more) ≡ 46 ∷ x.0 = same ∙ x.1 in
      let is : es ++ more ≡ x.0 = cc in
      run_done is_ascii_digit es rest more after run e (subst (λ (l : List ℕ). list_all is_ascii_digit l ≡ true) (sym is) x.2.1)

-- no longer token stands where digits, a dot and the longest digits do
pub dotted_longest : (digits es rest : List ℕ) → list_all is_ascii_digit digits ≡ true → IsRun (has classes.Digits) es rest → (more after : List ℕ) (k : Kind) → rest ≡ more ++ after → Spells k ((36 ∷ (digits ++ (46 ∷ es))) ++ more) → more ≡ []
dotted_longest digits es rest all run more after k e s =
    let d = dollar_sub k (36 ∷ ((digits ++ (46 ∷ es)) ++ more)) (sym (spells_lead k 36 ((digits ++ (46 ∷ es)) ++ more) s) ∙ dollar_lead) s in
    let whole : 36 ∷ ((digits ++ (46 ∷ es)) ++ more) ≡ 36 ∷ (d.2.digits ++ d.2.behind) = d.2.are in
    let inside : (digits ++ (46 ∷ es)) ++ more ≡ d.2.digits ++ d.2.behind = cc in
    dotted_done digits es rest more after all run e d.1 d.2.digits d.2.behind (sym (append_assoc digits (46 ∷ es) more) ∙ inside) d.2.some d.2.output

-- behind $ stands no digit
pub lone_dollar : (text rest : List ℕ) → text ≡ 36 ∷ rest → StopsAt is_ascii_digit rest → IsLoneDollar text
lone_dollar text [] e s = subst IsLoneDollar (sym e) refl
lone_dollar text (d ∷ ds) e s = subst IsLoneDollar (sym e) (refl, s)

-- ---- marks

pub encoded_mark : (m : Mark) (text rest : List ℕ) → chars text ≡ mark_text m ++ rest → encode_utf8_all (chars text) ≡ text → text ≡ mark_text m ++ encode_utf8_all rest
encoded_mark m text rest e u = sym u ∙ ap encode_utf8_all e ∙ encodes-append (mark_text m) rest ∙ ap (λ (l : List ℕ). l ++ encode_utf8_all rest) (encodes-IsAscii (mark_text m) (mark_ascii m))

module _ (text : List ℕ) (c : ℕ) (cs : List ℕ) (is : chars text ≡ c ∷ cs) (utf8 : encode_utf8_all (chars text) ≡ text) (otherwise : lead c ≡ other) where
  -- what spells a token there is a mark
  a_mark : (k : Kind) (front rest : List ℕ) → chars text ≡ front ++ rest → Spells k front → (n : Mark) × (front ≡ mark_text n)
  a_mark k [] rest e s = absurd (spells_something k s)
  a_mark k (d ∷ ds) rest e s =
      let same : d ≡ c = cc in
      other_mark k (d ∷ ds) (sym (spells_lead k d ds s) ∙ ap lead same ∙ otherwise) s

  pub mark_longest : (m : Mark) (rest : List ℕ) → chars text ≡ mark_text m ++ rest → front_mark text ≡ Some m → (more after : List ℕ) (k : Kind) → rest ≡ more ++ after → Spells k (mark_text m ++ more) → more ≡ []
  mark_longest m rest e found more after k split s =
      let whole : chars text ≡ (mark_text m ++ more) ++ after = e ∙ ap (λ (l : List ℕ). mark_text m ++ l) split ∙ sym (append_assoc (mark_text m) more after) in
      let n = a_mark k (mark_text m ++ more) after whole s in
      let bytes = encoded_mark n.0 text after (whole ∙ ap (λ (l : List ℕ). l ++ after) n.1) utf8 in
      nil_from_length more (omega (arith, mark_greatest n.0 m text (encode_utf8_all after) bytes found, ap length n.1, length-append (mark_text m) more))

  pub no_mark : front_mark text ≡ None → (k : Kind) (front rest : List ℕ) → chars text ≡ front ++ rest → Spells k front → ⊥
  no_mark none k front rest e s =
      let n = a_mark k front rest e s in
      mark_found n.0 (encode_utf8_all rest) (sym (ap front_mark (encoded_mark n.0 text rest (e ∙ ap (λ (l : List ℕ). l ++ rest) n.1) utf8)) ∙ none)
