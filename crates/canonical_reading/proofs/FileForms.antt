-- Files as forms.
use Rattle.std.proofs.Common.{ℕ, ◌≤◌, Bool, true, false, List, [], ◌∷◌, ◌++◌, Option, Some, None, refl, ap, subst}
use Rattle.std.specs.Prelude.{codes, decimal, pos, ◌==◌, if◌then◌else◌}
use Rattle.std.specs.List.{AllByRecursion}
use Rattle.std.specs.Str.{chars}
use Rattle.std.proofs.lemmas.List.{append-nil}
use Rattle.std.proofs.lemmas.Str.{chars-nil, IsUtf8-nil}
use Rattle.priz_frac.specs.Ratio.{Ratio}
use Rattle.utopist_lexer.specs.declared.word.Word.TheVariants as words
use Rattle.utopist_lexer.specs.declared.mark.Mark.TheVariants as marks
use Rattle.utopist_lexer.specs.Gap.{past_gap}
use Rattle.utopist_lexer.specs.Lexical.{max_number}
use Rattle.utopist_syntax.specs.Named.{Named}
use Rattle.utopist_syntax.specs.declared.concept.Concept.{Concept}
use Rattle.utopist_syntax.specs.declared.item.Item.{Item}
use Rattle.utopist_syntax.specs.declared.compute.Compute.{Compute}
use Rattle.utopist_syntax.specs.declared.compute.GivenPath.{GivenPath}
use Rattle.utopist_syntax.specs.declared.file.File.{File}
use Rattle.utopist_syntax.specs.FileTree.{item_tree, concept_tree, file_tree}
use Rattle.utopist_syntax.specs.ConceptText.{parents_text, item_line, concept_text}
use Rattle.utopist_syntax.specs.FractionText.{fraction_text}
use Rattle.utopist_syntax.specs.ComputeText.{value_text, given_text, givens_text, compute_text}
use Rattle.utopist_syntax.specs.Canonical.{canonical}
use Rattle.canonical_reading.specs.Piece.{Piece, HasPieces, mark_piece, number_piece, comma}
use Rattle.canonical_reading.specs.ItemPieces.{item_pieces}
use Rattle.canonical_reading.specs.FilePieces.{parents_pieces, concept_pieces, fraction_pieces, value_pieces, given_pieces, givens_pieces, compute_pieces, file_pieces}
use Rattle.canonical_reading.proofs.PrintableParts.{PrintableName, PrintableItem, PrintableConcept, PrintableFraction, PrintableValue, PrintableGiven, PrintableCompute, PrintableFile}
use Rattle.canonical_reading.proofs.Follows.{has_pieces}
use Rattle.canonical_reading.proofs.Forms.{anything, free, Laid, Form, none_form, joins, asks, offers, then_blanks, join_form, row_form, trees_form}
use Rattle.canonical_reading.proofs.PieceForms.{space, line_feed, name_form, number_form, signed_form, mark_form}
use Rattle.canonical_reading.proofs.Spaced.{word_space, spaced_word, mark_space, space_mark, spaced_mark, comma_form, names_form}
use Rattle.canonical_reading.proofs.ItemForms.{path_form, paths_form, item_form}

-- ---- ends of lines

-- a semicolon and a line feed
semicolon_line : Form anything free (codes ";\n") (mark_piece marks.Semicolon ∷ [])
semicolon_line = then_blanks (mark_form marks.Semicolon refl) line_feed refl

-- a colon, what opens the items, and a line feed
opens_items : Form anything free (codes " : (\n") (mark_piece marks.Colon ∷ mark_piece marks.OpenRound ∷ [])
opens_items = let f = joins (spaced_mark marks.Colon refl) (then_blanks (mark_form marks.OpenRound refl) line_feed refl) refl in f

-- ---- concepts

-- nothing, or "is" and the parents
parents_form : (ps : List Named) → AllByRecursion PrintableName ps → Form free free (parents_text ps) (parents_pieces ps)
parents_form [] h = none_form free
parents_form (p ∷ ps) h = let f = asks free (joins (spaced_word words.Is) (names_form (p ∷ ps) h) refl) refl in f

-- an item on a line of its own
line_form : (item : Item) → PrintableItem (item_tree item) → Form anything anything (item_line item) (item_pieces (item_tree item))
line_form item h = let f = offers anything (joins (joins space space refl) (then_blanks (item_form item h) line_feed refl) refl) refl in f

-- a concept
concept_form : (c : Concept) → PrintableConcept (concept_tree c) → Form anything anything (concept_text c) (concept_pieces (concept_tree c))
concept_form c h =
    let head = joins (word_space words.Concept) (joins (name_form c.name h.name) (joins (parents_form c.parents h.parents) opens_items refl) refl) refl in
    let lines = trees_form PrintableItem item_line item_pieces item_tree anything line_form c.items h.items in
    let f = joins head (joins lines (joins (mark_form marks.CloseRound refl) semicolon_line refl) refl) refl in f

-- ---- compute statements

-- nothing, or / and the denominator
den_form : (whole : Bool) (n : ℕ) → n ≤ max_number → Form free free (if whole then [] else codes "/" ++ decimal n) (if whole then [] else mark_piece marks.Slash ∷ number_piece (pos n) ∷ [])
den_form true n h = none_form free
den_form false n h = let f = joins (mark_form marks.Slash refl) (number_form (pos n) h) refl in f

-- a fraction
fraction_form : (x : Ratio) → PrintableFraction x → Form free anything (fraction_text x) (fraction_pieces x)
fraction_form x h = let f = joins (signed_form x.num h.num) (den_form (x.den == 1) x.den h.den) refl in f

-- nothing, or "=" and the fraction
value_form : (value : Option Ratio) → PrintableValue value → Form free free (value_text value) (value_pieces value)
value_form None h = none_form free
value_form (Some x) h = let f = joins (spaced_mark marks.Equal refl) (fraction_form x h) refl in f

-- a path, with its value if it has one
given_form : (g : GivenPath) → PrintableGiven g → Form free anything (given_text g) (given_pieces g)
given_form g h = let f = joins (path_form g.path h.0) (value_form g.value h.1) refl in f

-- nothing, or "given" and what is given
givens_form : (gs : List GivenPath) → AllByRecursion PrintableGiven gs → Form anything anything (givens_text gs) (givens_pieces gs)
givens_form [] h = none_form anything
givens_form (g ∷ gs) h =
    let joined = join_form PrintableGiven given_text given_pieces free free (codes ", ") comma given_form comma_form refl (g ∷ gs) h in
    let f = joins (word_space words.Given) (joins joined (mark_space marks.Semicolon refl) refl) refl in f

-- a compute statement
compute_form : (c : Compute) → PrintableCompute c → Form anything anything (compute_text c) (compute_pieces c)
compute_form c h =
    let head = joins (word_space words.Compute) (joins (name_form c.name h.name) (joins (spaced_mark marks.Colon refl) (mark_space marks.OpenRound refl) refl) refl) refl in
    let wants = joins (word_space words.Find) (joins (paths_form c.wants h.wants) (joins (space_mark marks.CloseRound refl) semicolon_line refl) refl) refl in
    let f = joins head (joins (givens_form c.givens h.givens) wants refl) refl in f

-- ---- files

-- a whole file
file_form : (f : File) → PrintableFile (file_tree f) → Form anything anything (canonical f) (file_pieces (file_tree f))
file_form f h =
    let g = joins (trees_form PrintableConcept concept_text concept_pieces concept_tree anything concept_form f.concepts h.concepts) (row_form PrintableCompute compute_text compute_pieces anything compute_form f.computes h.computes) refl in g

-- nothing follows
laid_end : Laid anything [] []
laid_end = record { utf8 = IsUtf8-nil; follows = ap (past_gap false) chars-nil; front = tt }

-- a text on its own
form_laid : (text : List ℕ) (ps : List Piece) → Form anything anything text ps → Laid anything text ps
form_laid text ps f =
    subst (λ (t : List ℕ). Laid anything t ps) (append-nil text) (subst (λ (p : List Piece). Laid anything (text ++ []) p) (append-nil ps) (f.lays [] [] laid_end))

-- the canonical text of a file has its tokens
pub file_has_pieces : (f : File) → PrintableFile (file_tree f) → HasPieces (chars (canonical f)) (file_pieces (file_tree f))
file_has_pieces f h = has_pieces (chars (canonical f)) (file_pieces (file_tree f)) (form_laid (canonical f) (file_pieces (file_tree f)) (file_form f h)).follows
