-- A name, a number, a keyword or a mark is the token that is read where what follows does not lengthen it.
use Rattle.std.proofs.Common.{◌≡◌, ℕ, ◌<◌, ◌≤◌, ◌^◌, Bool, true, false, List, [], ◌∷◌, ◌++◌, length, Some, refl, sym, ap, subst, ◌∙◌, arith, rules, append_assoc, length-append, eqb, inl, inr, ⊎_elim}
use Rattle.std.specs.Prelude.{◌⊎◌, ◌||◌, pos, if◌then◌else◌}
use Rattle.std.specs.Ordering.{int_eq}
use Rattle.std.specs.Char.{is_ascii_digit}
use Rattle.std.specs.Fmt.{decimal}
use Rattle.std.specs.List.{list_all}
use Rattle.std.specs.Str.{encode_utf8_all}
use Rattle.std.proofs.lemmas.Bool.{and_parts, both_ways}
use Rattle.std.proofs.lemmas.Fmt.{digits_decimal, digits_value-decimal, decimal_nonempty}
use Rattle.std.proofs.lemmas.List.{nil_from_length, append-nil}
use Rattle.std.proofs.lemmas.Bool.Decides.{Decides-int_eq}
use Rattle.std.proofs.lemmas.List.Folds.{list_all-append}
use Rattle.std.proofs.lemmas.Str.Parse.{IsNumeralModel, numerals_by_fold}
use Rattle.utopist_lexer.specs.declared.word.Word.{Word}
use Rattle.utopist_lexer.specs.declared.mark.Mark.{Mark}
use Rattle.utopist_lexer.specs.declared.token.Kind.{Kind}
use Rattle.utopist_lexer.specs.declared.token.Kind.TheVariants as kinds
use Rattle.utopist_lexer.specs.Characters.{is_continue}
use Rattle.utopist_lexer.specs.Spelling.{word_text, mark_text}
use Rattle.utopist_lexer.specs.Lexical.{IsIdentifier, AreDigits, value_behind, value_of, Spells, IsFree, IsToken, max_name, max_number}
use Rattle.utopist_lexer.specs.steps.Tables.{front_mark}
use Rattle.utopist_lexer.specs.Cutting.{StopsAt, IsUndotted}
use Rattle.utopist_lexer.proofs.Spellings.{mark_greatest}
use Rattle.utopist_lexer.proofs.Fronts.{sub_longest, dotted_longest}
use Rattle.utopist_lexer.proofs.Leads.{letter_lead, digit_lead, spells_lead, spells_something, letter_identifier, digit_digits, other_mark, word_identifier}
use Rattle.utopist_syntax.specs.ExprText.{sub_spelling}
use Rattle.canonical_reading.proofs.Classes.{free_stops, stops_digits}

-- ---- no longer front spells a token

-- what goes on behind a run that stops would pass
no_more : (p : ℕ → Bool) (front rest more after : List ℕ) → StopsAt p rest → rest ≡ more ++ after → list_all p (front ++ more) ≡ true → more ≡ []
no_more p front rest [] after stops e all = refl
no_more p front rest (d ∷ ds) after stops e all =
    let fails : p d ≡ false = subst (StopsAt p) e stops in
    let passes = (and_parts _ _ (sym (list_all-append p front (d ∷ ds)) ∙ all)).1 in
    absurd (both_ways (p d) fails (and_parts (p d) (list_all p ds) passes).0)

-- what goes on behind an identifier spells no token with it
identifier_longest : (text rest : List ℕ) → IsIdentifier text → StopsAt is_continue rest → (more after : List ℕ) (k : Kind) → rest ≡ more ++ after → Spells k (text ++ more) → more ≡ []
identifier_longest [] rest i stops more after k e s = absurd i
identifier_longest (c ∷ cs) rest i stops more after k e s =
    let j = letter_identifier k (c ∷ (cs ++ more)) (sym (spells_lead k c (cs ++ more) s) ∙ letter_lead c i.0) s in
    no_more is_continue cs rest more after stops e j.1

-- nor what goes on behind digits
digits_longest : (text rest : List ℕ) → AreDigits text → StopsAt is_ascii_digit rest → (more after : List ℕ) (k : Kind) → rest ≡ more ++ after → Spells k (text ++ more) → more ≡ []
digits_longest [] rest d stops more after k e s = absurd (omega (arith, d.0))
digits_longest (c ∷ cs) rest d stops more after k e s =
    let first = (and_parts (is_ascii_digit c) (list_all is_ascii_digit cs) d.1).0 in
    let j = digit_digits k (c ∷ (cs ++ more)) (sym (spells_lead k c (cs ++ more) s) ∙ digit_lead c first) s in
    no_more is_ascii_digit (c ∷ cs) rest more after stops e j.1

-- what is free begins with no dot
free_undotted : (rest : List ℕ) → IsFree rest → IsUndotted rest
free_undotted [] f digits after e d = absurd cc
free_undotted (c ∷ cs) f digits after e d = let same : c ≡ 46 = cc in both_ways true (subst (λ (x : ℕ). (eqb x 46 || is_continue x) ≡ false) same f) refl

-- nor what goes on behind a mark that is found
mark_longest : (m : Mark) (text rest : List ℕ) → text ≡ mark_text m → front_mark (text ++ rest) ≡ Some m → (more after : List ℕ) (k : Kind) → rest ≡ more ++ after → Spells k (text ++ more) → more ≡ []
mark_longest m [] rest is found more after k e s = absurd (spells_something (kinds.Mark m) is)
mark_longest m (c ∷ cs) rest is found more after k e s =
    let n = other_mark k (c ∷ (cs ++ more)) (sym (spells_lead k c (cs ++ more) s) ∙ spells_lead (kinds.Mark m) c cs is) s in
    let whole : (c ∷ cs) ++ rest ≡ mark_text n.0 ++ after =
    ap (λ (l : List ℕ). (c ∷ cs) ++ l) e ∙ sym (append_assoc (c ∷ cs) more after) ∙ ap (λ (l : List ℕ). l ++ after) n.1 in
    nil_from_length more (omega (arith, mark_greatest n.0 m ((c ∷ cs) ++ rest) after whole found, ap length n.1, ap length is, length-append (c ∷ cs) more))

-- ---- tokens

-- a name before what continues none
pub name_token : (text rest : List ℕ) → Spells kinds.Name text → length (encode_utf8_all text) ≤ max_name → StopsAt is_continue rest → IsToken kinds.Name text rest
name_token text rest s short stops = record {
  longest = record { spelled = s; longest = identifier_longest text rest s.0 stops };
  within = short;
}

-- a keyword before what continues none
pub word_token : (w : Word) (rest : List ℕ) → StopsAt is_continue rest → IsToken (kinds.Word w) (word_text w) rest
word_token w rest stops = record {
  longest = record { spelled = refl; longest = identifier_longest (word_text w) rest (word_identifier w) stops };
  within = tt;
}

-- a mark that is found at the front
pub mark_token : (m : Mark) (rest : List ℕ) → front_mark (mark_text m ++ rest) ≡ Some m → IsToken (kinds.Mark m) (mark_text m) rest
mark_token m rest found = record {
  longest = record { spelled = refl; longest = mark_longest m (mark_text m) rest refl found };
  within = tt;
}

-- digits and their value are those of std
numerals : IsNumeralModel (λ ds. list_all is_ascii_digit ds ≡ true) value_of
numerals = numerals_by_fold _ (search rules) value_behind (search rules)

-- a number is not negative in one way
pos_same : (m n : ℕ) → pos m ≡ pos n → m ≡ n
pos_same m n e = cc

-- a bound on a number is one on its value
bound : (n m : ℕ) → n ≤ max_number → pos n ≡ pos m → m ≤ max_number
bound n m h e = subst (λ (x : ℕ). x ≤ max_number) (pos_same n m e) h

-- a number that is not too great fits 64 bits
pub small : (n : ℕ) → n ≤ max_number → n < 2 ^ 64
small n h = omega arith

-- decimal is digits
decimal_digits : (n : ℕ) → n ≤ max_number → AreDigits (decimal n)
decimal_digits n h = (decimal_nonempty n (small n h), digits_decimal numerals n (small n h))

-- and its value is the number
decimal_value : (n : ℕ) → n ≤ max_number → pos n ≡ pos (value_of (decimal n))
decimal_value n h = ap (λ (x : ℕ). pos x) (sym (digits_value-decimal numerals n (small n h)))

-- a number before what is free
pub number_token : (n : ℕ) (rest : List ℕ) → n ≤ max_number → IsFree rest → IsToken (kinds.Number (pos n)) (decimal n) rest
number_token n rest h free = record {
  longest = record { spelled = (decimal_digits n h, decimal_value n h); longest = digits_longest (decimal n) rest (decimal_digits n h) (stops_digits rest (free_stops rest free)) };
  within = (free, λ m e. bound n m h e);
}

-- $ and a number, and that of an output where it isn't 1, before what is free
pub sub_token : (n m : ℕ) (rest : List ℕ) → n ≤ max_number → m ≤ max_number → IsFree rest → IsToken (kinds.Sub (pos n) (pos m)) (sub_spelling (pos n) (pos m)) rest
sub_token n m rest h i free = at (int_eq (pos m) (pos 1)) refl where
  ends : StopsAt is_ascii_digit rest
  ends = stops_digits rest (free_stops rest free)

  bounds : (x : ℕ) → (pos n ≡ pos x) ⊎ (pos m ≡ pos x) → x ≤ max_number
  bounds x e = ⊎_elim (λ a. bound n x h a) (λ b. bound m x i b) e

  at : (b : Bool) → int_eq (pos m) (pos 1) ≡ b → IsToken (kinds.Sub (pos n) (pos m)) (36 ∷ (decimal n ++ (if b then [] else 46 ∷ decimal m))) rest
  at true e = record {
    longest = record {
      spelled = record { digits = decimal n; behind = []; are = refl; some = decimal_digits n h; value = decimal_value n h; output = inl (refl, (Decides-int_eq (pos m) (pos 1)).0 e) };
      longest = λ more after k a s. sub_longest (decimal n) rest (record { passes = (decimal_digits n h).1; stops = ends }) (free_undotted rest free) more after k a (subst (λ (l : List ℕ). Spells k ((36 ∷ l) ++ more)) (append-nil (decimal n)) s);
    };
    within = (free, bounds);
  }
  at false e = record {
    longest = record {
      spelled = record { digits = decimal n; behind = 46 ∷ decimal m; are = refl; some = decimal_digits n h; value = decimal_value n h; output = inr (decimal m, refl, decimal_digits m i, decimal_value m i) };
      longest = dotted_longest (decimal n) (decimal m) rest (decimal_digits n h).1 (record { passes = (decimal_digits m i).1; stops = ends });
    };
    within = (free, bounds);
  }
