-- The pieces of an expression tell its symbols but for places.
use Rattle.std.proofs.Common.{◌≡◌, List, [], ◌∷◌, ◌++◌, map, refl, sym, ap, subst, ◌∙◌}
use Rattle.std.specs.Prelude.{ℤ, pos, drop}
use Rattle.std.specs.List.{AllByRecursion, flat_map}
use Rattle.std.specs.Str.{IsUtf8, encode_utf8_all}
use Rattle.std.proofs.lemmas.Str.{encodes-chars}
use Rattle.priz_base.specs.declared.place.Place.{Place}
use Rattle.utopist_lexer.specs.declared.mark.Mark.{Mark}
use Rattle.utopist_lexer.specs.declared.mark.Mark.TheVariants as marks
use Rattle.utopist_lexer.specs.declared.token.Kind.{Kind}
use Rattle.utopist_lexer.specs.declared.word.Word.{Word}
use Rattle.utopist_lexer.specs.declared.word.Word.TheVariants as words
use Rattle.utopist_lexer.specs.Lexical.{Tok}
use Rattle.utopist_syntax.specs.Named.{Named}
use Rattle.token_forms.specs.Symbols.{Symbol, name, sub, number, word, mark, end, symbol_at, symbol_of}
use Rattle.utopist_parser.specs.Written as written
use Rattle.utopist_parser.specs.Written.{WrittenPath, Expression, choice, plain, Chain, one_term, add, Term, one_factor, mul, Factor, negated, literal, variable, round, call, loop, Further, no_more, and_then}
use Rattle.token_forms.specs.Lists.{OneOrMore, behind, separated, all_of}
use Rattle.utopist_parser.specs.ExprSymbols.{spell_name, spell_path, sign_mark, scale_mark, cmp_mark, loop_word, spell_expr, spell_chain, spell_term, spell_factor, spell_exprs}
use Rattle.utopist_parser.specs.ExprTree.{see_expr, see_chain, see_term, see_factor, see_exprs}
use Rattle.canonical_reading.specs.Piece.{Piece, piece_of}
use Rattle.canonical_reading.proofs.SymbolPiece.{symbol_piece}
use Rattle.canonical_reading.proofs.Likeness.{IsLike, AreLike}
use Rattle.canonical_reading.proofs.PrintableParts.{SomeAndAll, PrintableName, PrintableNames, PrintableTree, PrintableTrees}

-- ---- symbols that their pieces tell

-- each token with the piece of this symbol has a symbol like it
abbrev IsTold : Symbol → Type 0
IsTold c = (t : Tok) → piece_of t ≡ symbol_piece c → IsLike (symbol_of t) c

-- symbols that are all so
abbrev AreTold : List Symbol → Type 0
AreTold [] = Unit {0}
AreTold (c ∷ cs) = IsTold c × AreTold cs

-- the same fact, whose list is found from it
pub record Told (cs : List Symbol) : Type 0 where
  each : AreTold cs

-- ---- symbols that are told

-- a token has the kind of its piece
like_by_kind : (c : Symbol) (t : Tok) → piece_of t ≡ symbol_piece c → IsLike (symbol_at (symbol_piece c).kind (record { text = encode_utf8_all t.text; place = t.place })) c → IsLike (symbol_of t) c
like_by_kind c t e like =
    subst (λ (k : Kind). IsLike (symbol_at k (record { text = encode_utf8_all t.text; place = t.place })) c) (sym (ap (λ (p : Piece). p.kind) e)) like

-- a symbol of which the kind of its piece says what it is
told_by_kind : (c : Symbol) → ((n : Named) → IsLike (symbol_at (symbol_piece c).kind n) c) → IsTold c
told_by_kind c like t e = like_by_kind c t e (like _)

-- a name that is text
name_is_told : (n : Named) → IsUtf8 n.text → IsTold (name n)
name_is_told n u t e = like_by_kind (name n) t e (ap (λ (p : Piece). encode_utf8_all p.text) e ∙ encodes-chars n.text u)

-- ---- lists of them

-- both parts of a list
AreTold-append : (xs ys : List Symbol) → AreTold xs → AreTold ys → AreTold (xs ++ ys)
AreTold-append [] ys n m = m
AreTold-append (x ∷ xs) ys n m = (n.0, AreTold-append xs ys n.1 m)

-- one form behind another
pub before : {xs ys : List Symbol} → Told xs → Told ys → Told (xs ++ ys)
before {xs} {ys} n m = record { each = AreTold-append xs ys n.each m.each }

-- nothing
pub nothing : Told []
nothing = record { each = tt }

-- a keyword before others
pub a_word : {cs : List Symbol} (w : Word) → Told cs → Told (word w ∷ cs)
a_word w m = record { each = (told_by_kind (word w) (λ n. refl), m.each) }

-- a mark before others
pub a_mark : {cs : List Symbol} (m : Mark) → Told cs → Told (mark m ∷ cs)
a_mark m n = record { each = (told_by_kind (mark m) (λ n. refl), n.each) }

-- a number before others
pub a_number : {cs : List Symbol} (i : ℤ) → Told cs → Told (number i ∷ cs)
a_number i m = record { each = (told_by_kind (number i) (λ n. refl), m.each) }

-- the number of a subtask before others
a_sub : {cs : List Symbol} (i j : ℤ) (p : Place) → Told cs → Told (sub i j p ∷ cs)
a_sub i j p m = record { each = (told_by_kind (sub i j p) (λ n. (refl, refl)), m.each) }

-- a name before others
pub a_name : {cs : List Symbol} (n : Named) → PrintableName n → Told cs → Told (name n ∷ cs)
a_name n h m = record { each = (name_is_told n h.utf8, m.each) }

-- the end
pub the_end : Told (end ∷ [])
the_end = record { each = (told_by_kind end (λ n. refl), tt) }

-- forms that stand one behind another
pub many : {X : Type 0} (spell : X → List Symbol) (P : X → Type 0) → ((x : X) → P x → Told (spell x)) → (xs : List X) → AllByRecursion P xs → Told (flat_map spell xs)
many spell P h [] a = nothing
many spell P h (x ∷ xs) a = before (h x a.0) (many spell P h xs a.1)

-- part {SEPARATOR part}
pub parted : {X : Type 0} (m : Mark) (spell : X → List Symbol) (P : X → Type 0) → ((x : X) → P x → Told (spell x))
    → (xs : OneOrMore X) → SomeAndAll P (all_of xs) → Told (separated m spell xs)
parted m spell P h xs a = before (h xs.first a.0) (many (behind m spell) P (λ x b. a_mark m (h x b)) xs.more a.1)

-- tokens with the pieces of such symbols have symbols like them
tokens_like : (cs : List Symbol) (ts : List Tok) → AreTold cs → map piece_of ts ≡ map symbol_piece cs → AreLike (map symbol_of ts) cs
tokens_like [] [] a e = tt
tokens_like [] (t ∷ ts) a e = absurd cc
tokens_like (c ∷ cs) [] a e = absurd cc
tokens_like (c ∷ cs) (t ∷ ts) a e = (a.0 t (cc), tokens_like cs ts a.1 (ap (drop 1) e))

-- the same of a list that is told
pub told_like : (cs : List Symbol) (ts : List Tok) → Told cs → map piece_of ts ≡ map symbol_piece cs → AreLike (map symbol_of ts) cs
told_like cs ts a e = tokens_like cs ts a.each e

-- ---- names and paths

-- a name that can be printed
pub name_told : (n : Named) → PrintableName n → Told (spell_name n)
name_told n h = a_name n h nothing

-- a path
pub path_told : (p : WrittenPath) → PrintableNames (all_of p) → Told (spell_path p)
path_told p h = parted marks.Dot spell_name PrintableName name_told p h

-- ---- expressions

mutual
  -- an expression whose tree can be printed
  pub expr_told : (e : Expression) → PrintableTree (see_expr e) → Told (spell_expr e)
  expr_told (choice a c b met other) h =
      a_word words.If (before (chain_told a h.0) (a_mark (cmp_mark c) (before (chain_told b h.1) (a_word words.Then (before (expr_told met h.2) (a_word words.Else (expr_told other h.3)))))))
  expr_told (plain c) h = chain_told c h

  -- a chain
  pub chain_told : (c : Chain) → PrintableTree (see_chain c) → Told (spell_chain c)
  chain_told (one_term t) h = term_told t h
  chain_told (add c sign t) h = before (chain_told c h.0) (a_mark (sign_mark sign) (term_told t h.1))

  -- a term
  term_told : (t : Term) → PrintableTree (see_term t) → Told (spell_term t)
  term_told (one_factor f) h = factor_told f h
  term_told (mul t scale f) h = before (term_told t h.0) (a_mark (scale_mark scale) (factor_told f h.1))

  -- a factor
  factor_told : (f : Factor) → PrintableTree (see_factor f) → Told (spell_factor f)
  factor_told (negated f) h = a_mark marks.Minus (factor_told f h)
  factor_told (literal n) h = a_number (pos n) nothing
  factor_told (variable p) h = path_told p h
  factor_told (round e) h = a_mark marks.OpenRound (before (expr_told e h) (a_mark marks.CloseRound nothing))
  factor_told (call k place first more) h =
      a_sub (pos k.0) (pos k.1) place (a_mark marks.OpenRound (before (expr_told first h.2.0) (before (exprs_told more h.2.1) (a_mark marks.CloseRound nothing))))
  factor_told (loop kind n first second each) h =
      a_word (loop_word kind) (a_mark marks.OpenRound (a_name n h.0 (a_mark marks.Comma (before (expr_told first h.1) (a_mark marks.Comma (before (expr_told second h.2) (a_mark marks.Comma (before (expr_told each h.3) (a_mark marks.CloseRound nothing)))))))))

  -- further arguments
  exprs_told : (es : Further) → PrintableTrees (see_exprs es) → Told (spell_exprs es)
  exprs_told no_more h = nothing
  exprs_told (and_then e more) h = a_mark marks.Comma (before (expr_told e h.0) (exprs_told more h.1))
