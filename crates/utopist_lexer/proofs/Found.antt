-- What is found at the front of a text, and what is wrong there.
use Rattle.std.proofs.Common.{◌≡◌, ℕ, ◌≤◌, ◌<◌, Bool, true, false, cond, eqb, List, [], ◌∷◌, ◌++◌, length, Option, Some, None, refl, sym, ap, subst, ◌∙◌, arith, append_assoc, inl, inr, ⊎_elim}
use Rattle.std.proofs.lemmas.List.{append-nil, append_cancel_right}
use Rattle.std.specs.Prelude.{ℤ, pos}
use Rattle.std.specs.Char.{encode_utf8, is_ascii_digit}
use Rattle.std.specs.List.{find, starts_with}
use Rattle.std.specs.Str.{IsUtf8, chars, bytes_eq, encode_utf8_all}
use Rattle.std.proofs.lemmas.Str.{chars-IsAscii, encodes-IsAscii, encodes-chars}
use Rattle.std.proofs.lemmas.Slice.Eq.{bytes_eq-Decides, starts_is}
use Rattle.std.proofs.lemmas.Bool.Decides.{Decides-eqb}
use Rattle.utopist_lexer.specs.declared.word.Word.{Word}
use Rattle.utopist_lexer.specs.declared.word.TheConstants.{WORDS}
use Rattle.utopist_lexer.specs.declared.mark.Mark.{Mark}
use Rattle.utopist_lexer.specs.declared.classes.Class.TheVariants as classes
use Rattle.utopist_lexer.specs.declared.token.Kind.{Kind}
use Rattle.utopist_lexer.specs.declared.token.Kind.TheVariants as kinds
use Rattle.utopist_lexer.specs.declared.fault.LexKind.TheVariants as fault
use Rattle.utopist_lexer.specs.Characters.{is_start, has}
use Rattle.utopist_lexer.specs.Spelling.{word_text, mark_text}
use Rattle.utopist_lexer.specs.Lexical.{AreDigits, value_of, SpellsOutput, Spells, IsLongest, IsFree, IsToken, max_name, max_number}
use Rattle.utopist_lexer.specs.Faults.{Front, Faulty}
use Rattle.utopist_lexer.specs.steps.Tables.{word_of, marks_by_length, front_mark}
use denote.Bor.{Bor}
use Rattle.utopist_lexer.specs.Cutting.{Parts, IsRun, StartsBy, StartsWith, IsValue, StopsAt, IsUndotted, Dotted, OutputAt, DigitsIfAny, IsOutput}
use Rattle.utopist_lexer.proofs.Spellings.{word_of-text}
use Rattle.utopist_lexer.proofs.Leads.{word_ascii}
use Rattle.utopist_lexer.proofs.Fronts.{identifier_front, identifier_longest, number_front, number_longest, sub_longest, dotted_longest, lone_dollar}
use Rattle.utopist_lexer.proofs.Cutting.{end_behind}
use Rattle.utopist_lexer.proofs.Outputs.{undotted_stop}

-- ---- tables

find_step : {X : Type 0} (p : X → Bool) (y : X) (found : Option X) (x : X) (b : Bool) → (found ≡ Some x → p x ≡ true) → p y ≡ b → cond b (Some y) found ≡ Some x → p x ≡ true
find_step p y found x true ih py e = let same : y ≡ x = cc in subst (λ z. p z ≡ true) same py
find_step p y found x false ih py e = ih e

-- what is found passes
find_some : {X : Type 0} (p : X → Bool) (xs : List X) (x : X) → find p xs ≡ Some x → p x ≡ true
find_some p [] x e = absurd cc
find_some p (y ∷ ys) x e = find_step p y (find p ys) x (p y) (find_some p ys x) refl e

word_of-some : (text : List ℕ) (w : Word) → word_of text ≡ Some w → text ≡ word_text w
word_of-some text w e = sym ((bytes_eq-Decides (word_text w) text).0 (find_some (λ v. bytes_eq (word_text v) text) WORDS w e))

pub mark_at-some : (text : List ℕ) (m : Mark) → front_mark text ≡ Some m → (rest : List ℕ) × (text ≡ mark_text m ++ rest)
mark_at-some text m e = (_, (starts_is Decides-eqb text (mark_text m) _ refl).0 (find_some (λ n. starts_with eqb text (mark_text n)) marks_by_length m e))

-- the characters of a keyword's bytes
word_spelled : (text : List ℕ) (w : Word) → word_of text ≡ Some w → chars text ≡ word_text w
word_spelled text w e = ap chars (word_of-some text w e) ∙ chars-IsAscii (word_text w) (word_ascii w)

no_word : (text : List ℕ) → IsUtf8 text → word_of text ≡ None → (w : Word) → chars text ≡ word_text w → ⊥
no_word text u e w is =
    let bytes : text ≡ word_text w = sym (encodes-chars text u) ∙ ap encode_utf8_all is ∙ encodes-IsAscii (word_text w) (word_ascii w) in
    let both : None ≡ Some w = sym e ∙ ap word_of bytes ∙ word_of-text w in cc

-- ---- names and keywords

module _ (text front rest : List ℕ) (starts : StartsBy is_start text) (parts : Parts text front rest) (run : IsRun (has classes.Identifier) (chars front) (chars rest)) where
  abbrev split : starts.0 ∷ starts.1 ≡ chars front ++ chars rest
  split = sym starts.2 ∙ parts.characters

  longest : (k : Kind) → Spells k (chars front) → IsLongest k (chars front) (chars rest)
  longest k s = record { spelled = s; longest = identifier_longest starts.0 starts.1 (chars front) (chars rest) starts.3 split run }

  pub word_token : (w : Word) → word_of front ≡ Some w → IsToken (kinds.Word w) (chars front) (chars rest)
  word_token w e = record { longest = longest (kinds.Word w) (word_spelled front w e); within = tt }

  a_name : word_of front ≡ None → Spells kinds.Name (chars front)
  a_name e = (identifier_front starts.0 starts.1 (chars front) (chars rest) starts.3 split run, no_word front parts.front_utf8 e)

  pub name_token : word_of front ≡ None → length front ≤ max_name → IsToken kinds.Name (chars front) (chars rest)
  name_token e short = record { longest = longest kinds.Name (a_name e); within = subst (λ (l : List ℕ). length l ≤ max_name) (sym (encodes-chars front parts.front_utf8)) short }

  pub name_fault : word_of front ≡ None → max_name < length front → Faulty fault.NameTooLong (chars text)
  name_fault e long =
      (record { kind = kinds.Name; text = chars front; rest = chars rest; split = parts.characters; longest = longest kinds.Name (a_name e) }, refl, subst (λ (l : List ℕ). max_name < length l) (sym (encodes-chars front parts.front_utf8)) long)

-- ---- numbers

abbrev at_value : (ℤ → Kind) → List ℕ → Kind
at_value kind digits = kind (pos (value_of digits))

pos_same : (m n : ℕ) → pos m ≡ pos n → m ≡ n
pos_same m n e = cc

in_bounds : (i : ℤ) (n : ℕ) → i ≡ pos n → n ≤ max_number → (m : ℕ) → i ≡ pos m → m ≤ max_number
in_bounds i n e h m f = subst (λ (x : ℕ). x ≤ max_number) (pos_same n m (sym e ∙ f)) h

module _ (text front rest : List ℕ) (starts : StartsBy is_ascii_digit text) (parts : Parts text front rest) (run : IsRun (has classes.Digits) (chars front) (chars rest)) where
  abbrev number_split : starts.0 ∷ starts.1 ≡ chars front ++ chars rest
  number_split = sym starts.2 ∙ parts.characters

  pub number_digits : AreDigits (chars front)
  number_digits = number_front starts.0 starts.1 (chars front) (chars rest) starts.3 number_split run

  number_first : (i : ℤ) → i ≡ pos (value_of (chars front)) → IsLongest (kinds.Number i) (chars front) (chars rest)
  number_first i e = record { spelled = (number_digits, e); longest = number_longest starts.0 starts.1 (chars front) (chars rest) starts.3 number_split run }

  abbrev number_at : Front (chars text)
  number_at = record { kind = kinds.Number (pos (value_of (chars front))); text = chars front; rest = chars rest; split = parts.characters; longest = number_first _ refl }

  pub number_token : (i : ℤ) → IsValue (chars front) (Some i) → IsFree (chars rest) → IsToken (kinds.Number i) (chars front) (chars rest)
  number_token i v free = record { longest = number_first i v.0; within = (free, in_bounds i (value_of (chars front)) v.0 v.1) }

  pub number_not_free : (IsFree (chars rest) → ⊥) → Faulty fault.BadNumber (chars text)
  number_not_free f = inr (number_at, value_of (chars front), refl, f)

  pub number_wide : IsValue (chars front) None → IsFree (chars rest) → Faulty fault.NumberTooWide (chars text)
  number_wide v free = (number_at, value_of (chars front), refl, free, v)

-- ---- $ and a number, and perhaps the number of an output

-- a dot and digits, where there are any
abbrev pub output_chars : Option (Bor (List ℕ)) → List ℕ
output_chars None = []
output_chars (Some d) = 46 ∷ chars d.now

-- their bytes
abbrev output_bytes : Option (Bor (List ℕ)) → List ℕ
output_bytes None = []
output_bytes (Some d) = encode_utf8 46 ++ d.now

-- their number, which is 1 where there are none
abbrev output_number : Option (Bor (List ℕ)) → ℕ
output_number None = 1
output_number (Some d) = value_of (chars d.now)

output_split : (rest : List ℕ) (o : Option (Bor (List ℕ))) (last : List ℕ) → OutputAt rest o last → chars rest ≡ output_chars o ++ chars last
output_split rest None last x = ap chars (sym x.0)
output_split rest (Some d) last x = x.starts.characters ∙ ap (λ (l : List ℕ). 46 ∷ l) x.parts.characters

output_joined : (rest : List ℕ) (o : Option (Bor (List ℕ))) (last : List ℕ) → OutputAt rest o last → rest ≡ output_bytes o ++ last
output_joined rest None last x = sym x.0
output_joined rest (Some d) last x = x.starts.bytes ∙ ap (λ (l : List ℕ). encode_utf8 46 ++ l) x.parts.bytes ∙ sym (append_assoc (encode_utf8 46) d.now last)

output_spells : (rest : List ℕ) (o : Option (Bor (List ℕ))) (last : List ℕ) → OutputAt rest o last → SpellsOutput (pos (output_number o)) (output_chars o)
output_spells rest None last x = inl (refl, refl)
output_spells rest (Some d) last x = inr (chars d.now, refl, (x.some, x.run.passes), refl)

output_longest : (digits rest : List ℕ) (o : Option (Bor (List ℕ))) (last : List ℕ) → IsRun (has classes.Digits) (chars digits) (chars rest) → OutputAt rest o last
    → (more after : List ℕ) (k : Kind) → chars last ≡ more ++ after → Spells k ((36 ∷ (chars digits ++ output_chars o)) ++ more) → more ≡ []
output_longest digits rest None last run x more after k e s =
    sub_longest (chars digits) (chars last) (subst (λ (l : List ℕ). IsRun (has classes.Digits) (chars digits) (chars l)) (sym x.0) run) (subst (λ (l : List ℕ). IsUndotted (chars l)) (sym x.0) x.1) more after k e
    (subst (λ (l : List ℕ). Spells k ((36 ∷ l) ++ more)) (append-nil (chars digits)) s)
output_longest digits rest (Some d) last run x more after k e s = dotted_longest (chars digits) (chars d.now) (chars last) run.passes x.run more after k e s

some_value : (i j : ℤ) → ◌≡◌ {A = Option ℤ} (Some i) (Some j) → i ≡ j
some_value i j e = cc

output_is : (o : Option (Bor (List ℕ))) (out : ℤ) → IsOutput o (Some out) → (out ≡ pos (output_number o)) × (output_number o ≤ max_number)
output_is None out v = (some_value out (pos 1) v, omega arith)
output_is (Some d) out v = v

output_too_wide : (o : Option (Bor (List ℕ))) → IsOutput o None → max_number < output_number o
output_too_wide None v = absurd cc
output_too_wide (Some d) v = v

module _ (text behind digits rest : List ℕ) (starts : StartsWith text 36 behind) (parts : Parts behind digits rest) (run : IsRun (has classes.Digits) (chars digits) (chars rest)) where
  pub sub_split : chars text ≡ (36 ∷ chars digits) ++ chars rest
  sub_split = starts.characters ∙ ap (λ (l : List ℕ). 36 ∷ l) parts.characters

  pub sub_lone : chars digits ≡ [] → Faulty fault.BadNumber (chars text)
  sub_lone none = inl (lone_dollar (chars text) (chars rest) (sub_split ∙ ap (λ (l : List ℕ). (36 ∷ l) ++ chars rest) none) run.stops)

  module _ (some : 0 < length (chars digits)) (o : Option (Bor (List ℕ))) (last : List ℕ) (output : OutputAt rest o last) where
    abbrev sub_text : List ℕ
    sub_text = 36 ∷ (chars digits ++ output_chars o)

    whole_split : chars text ≡ sub_text ++ chars last
    whole_split = sub_split ∙ ap (λ (l : List ℕ). 36 ∷ (chars digits ++ l)) (output_split rest o last output) ∙ ap (λ (l : List ℕ). 36 ∷ l) (sym (append_assoc (chars digits) (output_chars o) (chars last)))

    sub_first : (k out : ℤ) → k ≡ pos (value_of (chars digits)) → out ≡ pos (output_number o) → IsLongest (kinds.Sub k out) sub_text (chars last)
    sub_first k out e f = record {
      spelled = record { digits = chars digits; behind = output_chars o; are = refl; some = (some, run.passes); value = e; output = subst (λ (x : ℤ). SpellsOutput x (output_chars o)) (sym f) (output_spells rest o last output) };
      longest = output_longest digits rest o last run output;
    }

    abbrev sub_at : Front (chars text)
    sub_at = record { kind = kinds.Sub (pos (value_of (chars digits))) (pos (output_number o)); text = sub_text; rest = chars last; split = whole_split; longest = sub_first _ _ refl refl }

    pub sub_token : (k out : ℤ) → IsValue (chars digits) (Some k) → IsOutput o (Some out) → IsFree (chars last) → IsToken (kinds.Sub k out) sub_text (chars last)
    sub_token k out v w free =
        let x = output_is o out w in
        record { longest = sub_first k out v.0 x.0; within = (free, λ n h. ⊎_elim (λ e. in_bounds k (value_of (chars digits)) v.0 v.1 n e) (λ e. in_bounds out (output_number o) x.0 x.1 n e) h) }

    pub sub_not_free : (IsFree (chars last) → ⊥) → Faulty fault.BadNumber (chars text)
    sub_not_free f = inr (sub_at, value_of (chars digits), inl refl, f)

    pub sub_wide : IsValue (chars digits) None → IsFree (chars last) → Faulty fault.NumberTooWide (chars text)
    sub_wide v free = (sub_at, value_of (chars digits), inl refl, free, v)

    pub output_wide : IsOutput o None → IsFree (chars last) → Faulty fault.NumberTooWide (chars text)
    output_wide v free = (sub_at, output_number o, inr refl, free, output_too_wide o v)

    -- what follows is an end of the text
    pub sub_end : (front : List ℕ) × (text ≡ front ++ last)
    sub_end =
        let f = end_behind text behind digits rest 36 starts parts in
        (f.0 ++ output_bytes o, f.1 ∙ ap (λ (l : List ℕ). f.0 ++ l) (output_joined rest o last output) ∙ sym (append_assoc f.0 (output_bytes o) last))

    -- the characters before it
    pub sub_front : (front after : List ℕ) → Parts text front after → after ≡ last → chars front ≡ sub_text
    sub_front front after q same =
        append_cancel_right (chars front) sub_text (chars last) (ap (λ (l : List ℕ). chars front ++ chars l) (sym same) ∙ sym q.characters ∙ whole_split)

-- digits stand in a number of an output
pub output_digits : (rest : List ℕ) (o : Option (Bor (List ℕ))) (last : List ℕ) → OutputAt rest o last → DigitsIfAny o
output_digits rest None last x = tt
output_digits rest (Some d) last x = (x.some, x.run.passes)

-- ---- a dot at the front

module _ (text behind digits rest : List ℕ) (c : ℕ) (bytes : text ≡ encode_utf8 c ++ behind) (characters : chars text ≡ c ∷ chars behind) (is_dot : c ≡ 46) (parts : Parts behind digits rest) (run : IsRun (has classes.Digits) (chars digits) (chars rest)) where
  dot_first : chars text ≡ 46 ∷ chars behind
  dot_first = characters ∙ ap (λ (x : ℕ). x ∷ chars behind) is_dot

  pub dot_bare : chars digits ≡ [] → IsUndotted (chars text)
  dot_bare none = undotted_stop (chars text) (chars behind) dot_first (subst (StopsAt is_ascii_digit) (sym (parts.characters ∙ ap (λ (l : List ℕ). l ++ chars rest) none)) run.stops)

  pub dot_digits : 0 < length (chars digits) → Dotted text digits rest
  dot_digits some = record { behind = behind; starts = record { bytes = subst (λ (x : ℕ). text ≡ encode_utf8 x ++ behind) is_dot bytes; characters = dot_first }; parts = parts; run = run; some = some }
