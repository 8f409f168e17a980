-- Keywords and marks, as they are found in a table.
use Rattle.std.specs.Prelude.{ℕ, List, [], ◌∷◌, Option, nat_eq}
use Rattle.std.specs.List.{find, starts_with}
use Rattle.std.specs.Str.{bytes_eq}
use Rattle.utopist_lexer.specs.declared.word.Word.{Word}
use Rattle.utopist_lexer.specs.declared.word.TheConstants.{WORDS}
use Rattle.utopist_lexer.specs.declared.mark.Mark.{Mark}
use Rattle.utopist_lexer.specs.declared.mark.Mark.TheVariants as marks
use Rattle.utopist_lexer.specs.Spelling.{word_text, mark_text}

-- the keyword of these characters, or none
abbrev pub word_of : List ℕ → Option Word
word_of text = find (λ w. bytes_eq (word_text w) text) WORDS

-- a mark stands before those that it begins with
abbrev pub marks_by_length : List Mark
marks_by_length =
    marks.AtMost ∷ marks.Arrow ∷ marks.OpenRound ∷ marks.CloseRound ∷ marks.OpenSquare ∷ marks.CloseSquare ∷ marks.OpenCurly ∷ marks.CloseCurly
    ∷ marks.Colon ∷ marks.Semicolon ∷ marks.Comma ∷ marks.Dot ∷ marks.Equal ∷ marks.Less ∷ marks.Plus ∷ marks.Minus ∷ marks.Star ∷ marks.Slash ∷ []

-- the mark at the front, or none; the longer one where one begins with the other
abbrev pub front_mark : List ℕ → Option Mark
front_mark text = find (λ m. starts_with nat_eq text (mark_text m)) marks_by_length
