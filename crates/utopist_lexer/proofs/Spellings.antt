-- Keywords and marks by their characters.
use Rattle.std.proofs.Common.{lit≤, ◌≡◌, ℕ, ◌≤◌, Bool, true, false, cond, eqb, ltb, not, List, [], ◌∷◌, ◌++◌, length, Some, None, refl, sym, ap, subst, ◌∙◌}
use Rattle.std.specs.Prelude.{◌&&◌, ◌||◌}
use Rattle.std.specs.Char.{is_ascii_digit, is_ascii_alphabetic}
use Rattle.std.specs.List.{list_all}
use Rattle.utopist_lexer.specs.declared.word.Word.{Word}
use Rattle.utopist_lexer.specs.declared.word.Word.TheVariants as words
use Rattle.utopist_lexer.specs.declared.mark.Mark.{Mark}
use Rattle.utopist_lexer.specs.declared.mark.Mark.TheVariants as marks
use Rattle.utopist_lexer.specs.Spelling.{word_text, mark_text}
use Rattle.utopist_lexer.specs.steps.Tables.{word_of, front_mark}

-- ---- keywords

-- some letters of ASCII
abbrev pub are_letters : List ℕ → Bool
are_letters [] = false
are_letters (c ∷ cs) = list_all is_ascii_alphabetic (c ∷ cs)

pub word_letters : (w : Word) → are_letters (word_text w) ≡ true
word_letters words.Concept = refl
word_letters words.Is = refl
word_letters words.Var = refl
word_letters words.Numeric = refl
word_letters words.Eq = refl
word_letters words.Rel = refl
word_letters words.Compute = refl
word_letters words.Given = refl
word_letters words.Find = refl
word_letters words.If = refl
word_letters words.Then = refl
word_letters words.Else = refl
word_letters words.Sum = refl
word_letters words.Prod = refl
word_letters words.Iter = refl

pub word_of-text : (w : Word) → word_of (word_text w) ≡ Some w
word_of-text words.Concept = refl
word_of-text words.Is = refl
word_of-text words.Var = refl
word_of-text words.Numeric = refl
word_of-text words.Eq = refl
word_of-text words.Rel = refl
word_of-text words.Compute = refl
word_of-text words.Given = refl
word_of-text words.Find = refl
word_of-text words.If = refl
word_of-text words.Then = refl
word_of-text words.Else = refl
word_of-text words.Sum = refl
word_of-text words.Prod = refl
word_of-text words.Iter = refl

-- ---- marks

-- starts neither a name nor a number nor $ and a number
abbrev pub is_sign : ℕ → Bool
is_sign c = not (((is_ascii_alphabetic c || eqb c 95) || is_ascii_digit c) || eqb c 36)

-- some characters of ASCII, the first of them a sign
abbrev pub are_signs : List ℕ → Bool
are_signs [] = false
are_signs (c ∷ cs) = is_sign c && list_all (λ d. ltb d 128) (c ∷ cs)

pub mark_signs : (m : Mark) → are_signs (mark_text m) ≡ true
mark_signs marks.OpenRound = refl
mark_signs marks.CloseRound = refl
mark_signs marks.OpenSquare = refl
mark_signs marks.CloseSquare = refl
mark_signs marks.OpenCurly = refl
mark_signs marks.CloseCurly = refl
mark_signs marks.Colon = refl
mark_signs marks.Semicolon = refl
mark_signs marks.Comma = refl
mark_signs marks.Dot = refl
mark_signs marks.Equal = refl
mark_signs marks.Less = refl
mark_signs marks.AtMost = refl
mark_signs marks.Plus = refl
mark_signs marks.Minus = refl
mark_signs marks.Star = refl
mark_signs marks.Slash = refl
mark_signs marks.Arrow = refl

pub mark_at-text : (m : Mark) → front_mark (mark_text m) ≡ Some m
mark_at-text marks.OpenRound = refl
mark_at-text marks.CloseRound = refl
mark_at-text marks.OpenSquare = refl
mark_at-text marks.CloseSquare = refl
mark_at-text marks.OpenCurly = refl
mark_at-text marks.CloseCurly = refl
mark_at-text marks.Colon = refl
mark_at-text marks.Semicolon = refl
mark_at-text marks.Comma = refl
mark_at-text marks.Dot = refl
mark_at-text marks.Equal = refl
mark_at-text marks.Less = refl
mark_at-text marks.AtMost = refl
mark_at-text marks.Plus = refl
mark_at-text marks.Minus = refl
mark_at-text marks.Star = refl
mark_at-text marks.Slash = refl
mark_at-text marks.Arrow = refl

pub mark_some : (m : Mark) → 1 ≤ length (mark_text m)
mark_some marks.OpenRound = lit≤ tt
mark_some marks.CloseRound = lit≤ tt
mark_some marks.OpenSquare = lit≤ tt
mark_some marks.CloseSquare = lit≤ tt
mark_some marks.OpenCurly = lit≤ tt
mark_some marks.CloseCurly = lit≤ tt
mark_some marks.Colon = lit≤ tt
mark_some marks.Semicolon = lit≤ tt
mark_some marks.Comma = lit≤ tt
mark_some marks.Dot = lit≤ tt
mark_some marks.Equal = lit≤ tt
mark_some marks.Less = lit≤ tt
mark_some marks.AtMost = lit≤ tt
mark_some marks.Plus = lit≤ tt
mark_some marks.Minus = lit≤ tt
mark_some marks.Star = lit≤ tt
mark_some marks.Slash = lit≤ tt
mark_some marks.Arrow = lit≤ tt

-- no mark at the front is longer than the one that is found
pub mark_greatest : (n m : Mark) (text after : List ℕ) → text ≡ mark_text n ++ after → front_mark text ≡ Some m → length (mark_text n) ≤ length (mark_text m)
mark_greatest marks.OpenRound m text after is e = mark_some m
mark_greatest marks.CloseRound m text after is e = mark_some m
mark_greatest marks.OpenSquare m text after is e = mark_some m
mark_greatest marks.CloseSquare m text after is e = mark_some m
mark_greatest marks.OpenCurly m text after is e = mark_some m
mark_greatest marks.CloseCurly m text after is e = mark_some m
mark_greatest marks.Colon m text after is e = mark_some m
mark_greatest marks.Semicolon m text after is e = mark_some m
mark_greatest marks.Comma m text after is e = mark_some m
mark_greatest marks.Dot m text after is e = mark_some m
mark_greatest marks.Equal m text after is e = mark_some m
mark_greatest marks.Less m text after is e = mark_some m
mark_greatest marks.AtMost m text after is e =
    let both : Some marks.AtMost ≡ Some m = sym (ap front_mark is) ∙ e in
    let same : marks.AtMost ≡ m = cc in subst (λ x. 2 ≤ length (mark_text x)) same (lit≤ tt)
mark_greatest marks.Plus m text after is e = mark_some m
mark_greatest marks.Minus m text after is e = mark_some m
mark_greatest marks.Star m text after is e = mark_some m
mark_greatest marks.Slash m text after is e = mark_some m
mark_greatest marks.Arrow m text after is e =
    let both : Some marks.Arrow ≡ Some m = sym (ap front_mark is) ∙ e in
    let same : marks.Arrow ≡ m = cc in subst (λ x. 2 ≤ length (mark_text x)) same (lit≤ tt)

one_of : (b : Bool) (m n : Mark) → cond b (Some m) (Some n) ≡ None → ⊥
one_of true m n e = cc
one_of false m n e = cc

-- where a mark stands at the front, one is found
pub mark_found : (m : Mark) (after : List ℕ) → front_mark (mark_text m ++ after) ≡ None → ⊥
mark_found marks.OpenRound after e = cc
mark_found marks.CloseRound after e = cc
mark_found marks.OpenSquare after e = cc
mark_found marks.CloseSquare after e = cc
mark_found marks.OpenCurly after e = cc
mark_found marks.CloseCurly after e = cc
mark_found marks.Colon after e = cc
mark_found marks.Semicolon after e = cc
mark_found marks.Comma after e = cc
mark_found marks.Dot after e = cc
mark_found marks.Equal after e = cc
mark_found marks.Less [] e = cc
mark_found marks.Less (c ∷ cs) e = one_of _ marks.AtMost marks.Less e
mark_found marks.AtMost after e = cc
mark_found marks.Plus after e = cc
mark_found marks.Minus [] e = cc
mark_found marks.Minus (c ∷ cs) e = one_of _ marks.Arrow marks.Minus e
mark_found marks.Star after e = cc
mark_found marks.Slash after e = cc
mark_found marks.Arrow after e = cc
