-- Keywords and marks with the spaces around them.
use Rattle.std.proofs.Common.{◌≡◌, true, List, [], ◌∷◌, ◌++◌, refl}
use Rattle.std.specs.Prelude.{codes}
use Rattle.utopist_lexer.specs.declared.word.Word.{Word}
use Rattle.utopist_lexer.specs.declared.mark.Mark.{Mark}
use Rattle.utopist_lexer.specs.declared.mark.Mark.TheVariants as marks
use Rattle.utopist_lexer.specs.Spelling.{word_text, mark_text}
use Rattle.utopist_syntax.specs.Named.{Named}
use Rattle.utopist_syntax.specs.PathText.{names_text}
use Rattle.canonical_reading.specs.Piece.{word_piece, mark_piece, name_piece, comma}
use Rattle.canonical_reading.specs.PathPieces.{names_pieces}
use Rattle.canonical_reading.proofs.PrintableParts.{PrintableName, PrintableNames}
use Rattle.canonical_reading.proofs.Forms.{anything, stops, free, meets_anything, Form, joins, join_form}
use Rattle.canonical_reading.proofs.PieceForms.{space, word_form, name_form, is_sure, mark_front, mark_form}

-- a keyword and a space
pub word_space : (w : Word) → Form anything anything (word_text w ++ codes " ") (word_piece w ∷ [])
word_space w = let f = joins (word_form w) space refl in f

-- a keyword between spaces
pub spaced_word : (w : Word) → Form anything free (codes " " ++ (word_text w ++ codes " ")) (word_piece w ∷ [])
spaced_word w = let f = joins space (word_space w) refl in f

-- a mark and a space
pub mark_space : (m : Mark) → is_sure m ≡ true → Form anything (mark_front m) (mark_text m ++ codes " ") (mark_piece m ∷ [])
mark_space m e = let f = joins (mark_form m e) space refl in f

-- a space and a mark
pub space_mark : (m : Mark) → is_sure m ≡ true → Form anything free (codes " " ++ mark_text m) (mark_piece m ∷ [])
space_mark m e = let f = joins space (mark_form m e) (meets_anything (mark_front m)) in f

-- a mark between spaces
pub spaced_mark : (m : Mark) → is_sure m ≡ true → Form anything free (codes " " ++ (mark_text m ++ codes " ")) (mark_piece m ∷ [])
spaced_mark m e = let f = joins space (mark_space m e) (meets_anything (mark_front m)) in f

-- a comma and a space
pub comma_form : Form anything free (codes ", ") comma
comma_form = mark_space marks.Comma refl

-- names joined by commas
pub names_form : (names : List Named) → PrintableNames names → Form stops anything (names_text (codes ", ") names) (names_pieces comma names)
names_form names h = join_form PrintableName (λ n. n.text) (λ n. name_piece n ∷ []) stops free (codes ", ") comma name_form comma_form refl names h

-- names joined by dots
pub dotted_form : (names : List Named) → PrintableNames names → Form stops anything (names_text (codes ".") names) (names_pieces (mark_piece marks.Dot ∷ []) names)
dotted_form names h = join_form PrintableName (λ n. n.text) (λ n. name_piece n ∷ []) stops stops (codes ".") (mark_piece marks.Dot ∷ []) name_form (mark_form marks.Dot refl) refl names h
