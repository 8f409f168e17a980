-- Pieces as forms: keywords, marks, names and numbers, and blanks.
use Rattle.std.proofs.Common.{◌≡◌, ℕ, ◌<◌, ◌≤◌, Bool, true, false, eqb, List, [], ◌∷◌, ◌++◌, length, Some, refl, sym, ap, subst, ◌∙◌, arith}
use Rattle.std.specs.Prelude.{ℤ, pos, negsuc, suc, codes, unsigned_abs, if◌then◌else◌}
use Rattle.std.specs.Ordering.{int_eq}
use Rattle.std.specs.Fmt.{decimal, signed_decimal}
use Rattle.std.specs.Str.{IsAscii, chars}
use Rattle.std.proofs.lemmas.Fmt.{IsAscii-decimal}
use Rattle.std.proofs.lemmas.Str.{IsUtf8-from_ascii, IsAscii-append, chars-IsAscii, chars-append, encodes-chars}
use Rattle.std.proofs.lemmas.Str.Ascii.{IsAscii-nil, IsAscii-cons}
use Rattle.utopist_lexer.specs.declared.word.Word.{Word}
use Rattle.utopist_lexer.specs.declared.mark.Mark.{Mark}
use Rattle.utopist_lexer.specs.declared.mark.Mark.TheVariants as marks
use Rattle.utopist_lexer.specs.Spelling.{word_text, mark_text}
use Rattle.utopist_lexer.specs.Lexical.{max_name, max_number}
use Rattle.utopist_lexer.specs.steps.Tables.{front_mark}
use Rattle.utopist_lexer.specs.Cutting.{StopsAt}
use Rattle.utopist_lexer.proofs.Leads.{word_ascii, mark_ascii}
use Rattle.utopist_syntax.specs.Named.{Named}
use Rattle.utopist_syntax.specs.ExprText.{out_text, sub_spelling}
use Rattle.canonical_reading.specs.Piece.{Piece, word_piece, mark_piece, name_piece, number_piece, sub_piece, signed_pieces}
use Rattle.canonical_reading.proofs.PrintableParts.{PrintableName, PrintableNumber}
use Rattle.canonical_reading.proofs.Classes.{stops_ascii, free_ascii}
use Rattle.canonical_reading.proofs.Longest.{name_token, word_token, mark_token, number_token, sub_token, small}
use Rattle.canonical_reading.proofs.Follows.{Follows, stops_greater}
use Rattle.canonical_reading.proofs.Forms.{Next, anything, stops, free, Holds, Laid, Form, joins, offers, piece_lays, blanks_form}

-- ---- blanks

-- one character of ASCII
one_ascii : (c : ℕ) → c < 128 → IsAscii (c ∷ [])
one_ascii c h = IsAscii-cons c [] h IsAscii-nil

-- a space
pub space : Form anything free (codes " ") []
space = blanks_form (codes " ") (one_ascii 32 (omega arith)) (λ cs. refl) (λ cs. free_ascii 32 (omega arith) refl refl)

-- a line feed
pub line_feed : Form anything free (codes "\n") []
line_feed = blanks_form (codes "\n") (one_ascii 10 (omega arith)) (λ cs. refl) (λ cs. free_ascii 10 (omega arith) refl refl)

-- ---- keywords and names

-- a keyword
pub word_form : (w : Word) → Form stops anything (word_text w) (word_piece w ∷ [])
word_form w = record {
  lays = λ rest qs l. piece_lays stops anything (word_piece w) (word_text w) rest qs (IsUtf8-from_ascii (word_text w) (word_ascii w)) (chars-IsAscii (word_text w) (word_ascii w)) (word_token w (chars rest) l.front) tt l;
}

-- a name
pub name_form : (n : Named) → PrintableName n → Form stops anything n.text (name_piece n ∷ [])
name_form n p = record {
  lays = λ rest qs l.
      let short = subst (λ (t : List ℕ). length t ≤ max_name) (sym (encodes-chars n.text p.utf8)) p.short in
      piece_lays stops anything (name_piece n) n.text rest qs p.utf8 refl (name_token (chars n.text) (chars rest) p.spells short l.front) tt l;
}

-- ---- numbers

-- a natural number
decimal_form : (n : ℕ) → n ≤ max_number → Form free anything (decimal n) (number_piece (pos n) ∷ [])
decimal_form n h = record {
  lays = λ rest qs l.
      let a = IsAscii-decimal n (small n h) in
      piece_lays free anything (number_piece (pos n)) (decimal n) rest qs (IsUtf8-from_ascii (decimal n) a) (chars-IsAscii (decimal n) a) (number_token n (chars rest) h l.front) tt l;
}

-- the number of an output is text of ASCII
out_ascii : (m : ℕ) → m ≤ max_number → IsAscii (out_text (pos m))
out_ascii m i = at (int_eq (pos m) (pos 1)) where
  at : (b : Bool) → IsAscii (if b then [] else 46 ∷ decimal m)
  at true = IsAscii-nil
  at false = IsAscii-cons 46 (decimal m) (omega arith) (IsAscii-decimal m (small m i))

-- $ and the numbers of a subtask and of an output
dollar_form : (n m : ℕ) → n ≤ max_number → m ≤ max_number → Form free anything (sub_spelling (pos n) (pos m)) (sub_piece (pos n) (pos m) ∷ [])
dollar_form n m h i = record {
  lays = λ rest qs l.
      let text = sub_spelling (pos n) (pos m) in
      let a = IsAscii-cons 36 (decimal n ++ out_text (pos m)) (omega arith) (IsAscii-append (decimal n) (out_text (pos m)) (IsAscii-decimal n (small n h)) (out_ascii m i)) in
      piece_lays free anything (sub_piece (pos n) (pos m)) text rest qs (IsUtf8-from_ascii text a) (chars-IsAscii text a) (sub_token n m (chars rest) h i l.front) tt l;
}

-- a number that is not negative
pub number_form : (z : ℤ) → PrintableNumber z → Form free anything (signed_decimal z) (number_piece z ∷ [])
number_form (pos n) h = decimal_form n h
number_form (negsuc n) h = absurd h

-- $ and numbers that are not negative
pub sub_form : (k out : ℤ) → PrintableNumber k → PrintableNumber out → Form free anything (sub_spelling k out) (sub_piece k out ∷ [])
sub_form (pos n) (pos m) h i = dollar_form n m h i
sub_form (pos n) (negsuc m) h i = absurd i
sub_form (negsuc n) out h i = absurd h

-- ---- marks

-- whether a mark is found at the front whatever follows it, for a text that has its tokens
abbrev pub is_sure : Mark → Bool
is_sure marks.Less = false
is_sure m = true

-- what a mark offers
abbrev pub mark_front : Mark → Next
mark_front marks.Dot = stops
mark_front m = free

-- - is found where no > follows it
minus_found : (cs : List ℕ) → StopsAt (λ c. eqb 62 c) cs → front_mark (45 ∷ cs) ≡ Some marks.Minus
minus_found [] s = refl
minus_found (c ∷ cs) s = rw s refl

-- a mark is found at the front of a text that has its tokens
mark_found : (m : Mark) (cs : List ℕ) (ps : List Piece) → is_sure m ≡ true → Follows cs ps → front_mark (mark_text m ++ cs) ≡ Some m
mark_found marks.OpenRound cs ps e f = refl
mark_found marks.CloseRound cs ps e f = refl
mark_found marks.OpenSquare cs ps e f = refl
mark_found marks.CloseSquare cs ps e f = refl
mark_found marks.OpenCurly cs ps e f = refl
mark_found marks.CloseCurly cs ps e f = refl
mark_found marks.Colon cs ps e f = refl
mark_found marks.Semicolon cs ps e f = refl
mark_found marks.Comma cs ps e f = refl
mark_found marks.Dot cs ps e f = refl
mark_found marks.Equal cs ps e f = refl
mark_found marks.Less cs ps e f = absurd cc
mark_found marks.AtMost cs ps e f = refl
mark_found marks.Plus cs ps e f = refl
mark_found marks.Minus cs ps e f = minus_found cs (stops_greater cs ps f)
mark_found marks.Star cs ps e f = refl
mark_found marks.Slash cs ps e f = refl
mark_found marks.Arrow cs ps e f = refl

-- the front of a mark is as it offers
mark_holds : (m : Mark) (cs : List ℕ) → Holds (mark_front m) (mark_text m ++ cs)
mark_holds marks.OpenRound cs = free_ascii 40 (omega arith) refl refl
mark_holds marks.CloseRound cs = free_ascii 41 (omega arith) refl refl
mark_holds marks.OpenSquare cs = free_ascii 91 (omega arith) refl refl
mark_holds marks.CloseSquare cs = free_ascii 93 (omega arith) refl refl
mark_holds marks.OpenCurly cs = free_ascii 123 (omega arith) refl refl
mark_holds marks.CloseCurly cs = free_ascii 125 (omega arith) refl refl
mark_holds marks.Colon cs = free_ascii 58 (omega arith) refl refl
mark_holds marks.Semicolon cs = free_ascii 59 (omega arith) refl refl
mark_holds marks.Comma cs = free_ascii 44 (omega arith) refl refl
mark_holds marks.Dot cs = stops_ascii 46 (omega arith) refl
mark_holds marks.Equal cs = free_ascii 61 (omega arith) refl refl
mark_holds marks.Less cs = free_ascii 60 (omega arith) refl refl
mark_holds marks.AtMost cs = free_ascii 60 (omega arith) refl refl
mark_holds marks.Plus cs = free_ascii 43 (omega arith) refl refl
mark_holds marks.Minus cs = free_ascii 45 (omega arith) refl refl
mark_holds marks.Star cs = free_ascii 42 (omega arith) refl refl
mark_holds marks.Slash cs = free_ascii 47 (omega arith) refl refl
mark_holds marks.Arrow cs = free_ascii 45 (omega arith) refl refl

-- a mark that is found there, before what is laid
mark_lays : (n : Next) (m : Mark) (rest : List ℕ) (qs : List Piece) → front_mark (mark_text m ++ chars rest) ≡ Some m → Laid n rest qs → Laid (mark_front m) (mark_text m ++ rest) (mark_piece m ∷ qs)
mark_lays n m rest qs found l =
    piece_lays n (mark_front m) (mark_piece m) (mark_text m) rest qs (IsUtf8-from_ascii (mark_text m) (mark_ascii m)) (chars-IsAscii (mark_text m) (mark_ascii m)) (mark_token m (chars rest) found) (mark_holds m (chars rest)) l

-- a mark other than <
pub mark_form : (m : Mark) → is_sure m ≡ true → Form anything (mark_front m) (mark_text m) (mark_piece m ∷ [])
mark_form m e = record { lays = λ rest qs l. mark_lays anything m rest qs (mark_found m (chars rest) qs e l.follows) l }

-- < and a space
pub less_form : Form anything free (codes "< ") (mark_piece marks.Less ∷ [])
less_form = record {
  lays = λ rest qs l.
      let behind = space.lays rest qs l in
      let is : chars (32 ∷ rest) ≡ 32 ∷ chars rest =
      chars-append (32 ∷ []) rest (IsUtf8-from_ascii (32 ∷ []) (one_ascii 32 (omega arith))) ∙ ap (λ (x : List ℕ). x ++ chars rest) (chars-IsAscii (32 ∷ []) (one_ascii 32 (omega arith))) in
      mark_lays free marks.Less (32 ∷ rest) qs (ap (λ (x : List ℕ). front_mark (60 ∷ x)) is) behind;
}

-- a number of any sign
pub signed_form : (z : ℤ) → unsigned_abs z ≤ max_number → Form free anything (signed_decimal z) (signed_pieces z)
signed_form (pos n) h = decimal_form n h
signed_form (negsuc n) h = offers anything (joins (mark_form marks.Minus refl) (decimal_form (suc n) h) refl) refl
