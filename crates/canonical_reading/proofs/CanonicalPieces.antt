-- The canonical form of what is read has just the pieces of the canonical text of its tree.
use Rattle.std.proofs.Common.{◌≡◌, ℕ, zero, suc, ◌<◌, Bool, true, false, ℤ, pos, negsuc, List, [], ◌∷◌, ◌++◌, map, Option, Some, None, All, refl, ap, append_assoc, arith}
use Rattle.std.specs.Prelude.{◌==◌, if◌then◌else◌, unsigned_abs}
use Rattle.std.specs.List.{flat_map}
use Rattle.body_lang.specs.declared.op.Op.{Op}
use Rattle.body_lang.specs.declared.cmp.Cmp.{Cmp}
use Rattle.priz_frac.specs.Ratio.{Ratio}
use Rattle.utopist_lexer.specs.declared.word.Word.TheVariants as words
use Rattle.utopist_lexer.specs.declared.mark.Mark.TheVariants as marks
use Rattle.utopist_syntax.specs.declared.position.Position.{Position}
use Rattle.utopist_syntax.specs.declared.position.Position.TheVariants.{Alone, Compared, Negated, LeftOf, RightOf}
use Rattle.utopist_syntax.specs.Named.{Named}
use Rattle.utopist_syntax.specs.ExprTree as tree
use Rattle.utopist_syntax.specs.ExprTree.{ExprTree}
use Rattle.utopist_syntax.specs.Round.{rounds_op}
use Rattle.token_forms.specs.Symbols as symbols
use Rattle.token_forms.specs.Symbols.{Symbol, end}
use Rattle.token_forms.specs.Lists.{OneOrMore, spell_option, all_of}
use Rattle.utopist_parser.specs.Written.{WrittenPath, Sign, plus, minus, Scale, times, over, Expression, choice, plain, Chain, one_term, add, Term, one_factor, mul, Factor, negated, literal, variable, round, call, loop, Further, no_more, and_then}
use Rattle.utopist_parser.specs.WrittenFile.{WrittenBind, WrittenKind, numeric, component, WrittenPart, input, subtask, WrittenItem, var, eq, rel, WrittenConcept, WrittenNumber, WrittenGiven, WrittenCompute, WrittenFile}
use Rattle.utopist_parser.specs.ExprSymbols.{spell_name, spell_path, sign_mark, scale_mark, cmp_mark, loop_word, spell_expr, spell_chain, spell_term, spell_factor, spell_exprs}
use Rattle.utopist_parser.specs.FileSymbols.{spell_names, spell_paths, spell_bind, spell_binds, spell_kind, spell_part, spell_parts, spell_body, spell_item, spell_parents, spell_concept, spell_below, spell_minus, spell_value, spell_given, spell_givens, spell_compute, spell_file}
use Rattle.utopist_parser.specs.ExprTree.{sign_op, scale_op, see_expr, see_chain, see_term, see_factor, see_exprs}
use Rattle.utopist_parser.specs.FileSeen.{all_if_any, see_option, see_path, see_bind, see_kind, see_binds, see_part, see_item, see_concept, see_value, see_given, see_compute, see_file}
use Rattle.utopist_parser.specs.Arithmetic.{IsArithExpr, IsArith, IsArithTerm, IsArithFactor}
use Rattle.utopist_parser.specs.FileNesting.{IsItem, IsConcept, IsFile}
use Rattle.canonical_reading.specs.Piece.{Piece, word_piece, mark_piece, name_piece, number_piece, sub_piece, comma, signed_pieces}
use Rattle.canonical_reading.specs.PathPieces.{names_pieces, path_pieces, paths_pieces}
use Rattle.canonical_reading.specs.ExprPieces.{op_mark, pieces_at, more_pieces, expr_pieces}
use Rattle.canonical_reading.specs.ItemPieces.{kind_pieces, bind_pieces, binds_pieces, part_pieces, parts_pieces, body_pieces, item_pieces}
use Rattle.canonical_reading.specs.FilePieces.{parents_pieces, concept_pieces, fraction_pieces, value_pieces, given_pieces, givens_pieces, compute_pieces, file_pieces}
use Rattle.canonical_reading.proofs.CanonicalForm.{Forms, of_factor, of_term, of_chain, of_expr, canonical_expr, canonical_chain, canonical_term, canonical_factor, canonical_exprs, canonical_option, canonical_parts, canonical_body, canonical_side, canonical_item, canonical_concept, has_minus, written_below, written_ratio, canonical_value, canonical_given, canonical_compute, canonical_file}
use Rattle.canonical_reading.proofs.SymbolPiece.{symbol_piece}
use Rattle.canonical_reading.proofs.CanonicalSeen.{value_positive}
use Rattle.canonical_reading.proofs.Spelt.{Spelt, spelt-nil, spelt-cons, spelt-cons_same, spelt-append, spelt-same, spelt_plain, spelt_round, spelt_joined, spelt_joined_as, spelt_row_of, spelt_row_seen, spelt_joined_seen}

-- ---- marks

-- the mark of a sign is its operator's
sign_same : (s : Sign) → mark_piece (op_mark (sign_op s)) ≡ symbol_piece (symbols.mark (sign_mark s))
sign_same plus = refl
sign_same minus = refl

-- so is that of a scale
scale_same : (s : Scale) → mark_piece (op_mark (scale_op s)) ≡ symbol_piece (symbols.mark (scale_mark s))
scale_same times = refl
scale_same over = refl

-- ---- where parentheses stand

-- a sum has none on the left of a sum
sum_left_of_sum : (s o : Sign) → rounds_op (LeftOf (sign_op s)) (sign_op o) ≡ false
sum_left_of_sum plus plus = refl
sum_left_of_sum plus minus = refl
sum_left_of_sum minus plus = refl
sum_left_of_sum minus minus = refl

-- it has them on the right of one
sum_right_of_sum : (s o : Sign) → rounds_op (RightOf (sign_op s)) (sign_op o) ≡ true
sum_right_of_sum plus plus = refl
sum_right_of_sum plus minus = refl
sum_right_of_sum minus plus = refl
sum_right_of_sum minus minus = refl

-- on the left of a product
sum_left_of_product : (s : Scale) (o : Sign) → rounds_op (LeftOf (scale_op s)) (sign_op o) ≡ true
sum_left_of_product times plus = refl
sum_left_of_product times minus = refl
sum_left_of_product over plus = refl
sum_left_of_product over minus = refl

-- and on its right
sum_right_of_product : (s : Scale) (o : Sign) → rounds_op (RightOf (scale_op s)) (sign_op o) ≡ true
sum_right_of_product times plus = refl
sum_right_of_product times minus = refl
sum_right_of_product over plus = refl
sum_right_of_product over minus = refl

-- a product has none on the left of a sum
product_left_of_sum : (s : Sign) (o : Scale) → rounds_op (LeftOf (sign_op s)) (scale_op o) ≡ false
product_left_of_sum plus times = refl
product_left_of_sum plus over = refl
product_left_of_sum minus times = refl
product_left_of_sum minus over = refl

-- nor on its right
product_right_of_sum : (s : Sign) (o : Scale) → rounds_op (RightOf (sign_op s)) (scale_op o) ≡ false
product_right_of_sum plus times = refl
product_right_of_sum plus over = refl
product_right_of_sum minus times = refl
product_right_of_sum minus over = refl

-- nor on the left of a product
product_left_of_product : (s o : Scale) → rounds_op (LeftOf (scale_op s)) (scale_op o) ≡ false
product_left_of_product times times = refl
product_left_of_product times over = refl
product_left_of_product over times = refl
product_left_of_product over over = refl

-- it has them on the right of one
product_right_of_product : (s o : Scale) → rounds_op (RightOf (scale_op s)) (scale_op o) ≡ true
product_right_of_product times times = refl
product_right_of_product times over = refl
product_right_of_product over times = refl
product_right_of_product over over = refl

-- ---- one node

-- each form has the pieces of the tree where it stands
record Printed (w : Forms) (t : ExprTree) : Type 0 where
  pub alone : Spelt (spell_expr w.expr) (pieces_at Alone t)
  pub compared : Spelt (spell_chain w.chain) (pieces_at Compared t)
  pub left_of_sum : (s : Sign) → Spelt (spell_chain w.chain) (pieces_at (LeftOf (sign_op s)) t)
  pub right_of_sum : (s : Sign) → Spelt (spell_term w.term) (pieces_at (RightOf (sign_op s)) t)
  pub left_of_product : (s : Scale) → Spelt (spell_term w.term) (pieces_at (LeftOf (scale_op s)) t)
  pub right_of_product : (s : Scale) → Spelt (spell_factor w.factor) (pieces_at (RightOf (scale_op s)) t)
  pub negated : Spelt (spell_factor w.factor) (pieces_at Negated t)

-- a factor has the same pieces everywhere
factor_printed : (f : Factor) (t : ExprTree) → ((p : Position) → Spelt (spell_factor f) (pieces_at p t)) → Printed (of_factor f) t
factor_printed f t h = record {
  alone = h Alone;
  compared = h Compared;
  left_of_sum = λ s. h (LeftOf (sign_op s));
  right_of_sum = λ s. h (RightOf (sign_op s));
  left_of_product = λ s. h (LeftOf (scale_op s));
  right_of_product = λ s. h (RightOf (scale_op s));
  negated = h Negated;
}

-- the pieces of two operands with their operator
abbrev two_pieces : Op → ExprTree → ExprTree → List Piece
two_pieces o a b = pieces_at (LeftOf o) a ++ (mark_piece (op_mark o) ∷ pieces_at (RightOf o) b)

-- a product
term_printed : (x : Term) (o : Scale) (a b : ExprTree) → Spelt (spell_term x) (two_pieces (scale_op o) a b) → Printed (of_term x) (tree.op (scale_op o) a b)
term_printed x o a b h = record {
  alone = spelt_plain false refl h;
  compared = spelt_plain false refl h;
  left_of_sum = λ s. spelt_plain (rounds_op (LeftOf (sign_op s)) (scale_op o)) (product_left_of_sum s o) h;
  right_of_sum = λ s. spelt_plain (rounds_op (RightOf (sign_op s)) (scale_op o)) (product_right_of_sum s o) h;
  left_of_product = λ s. spelt_plain (rounds_op (LeftOf (scale_op s)) (scale_op o)) (product_left_of_product s o) h;
  right_of_product = λ s. spelt_round (rounds_op (RightOf (scale_op s)) (scale_op o)) (product_right_of_product s o) h;
  negated = spelt_round true refl h;
}

-- a sum
chain_printed : (x : Chain) (o : Sign) (a b : ExprTree) → Spelt (spell_chain x) (two_pieces (sign_op o) a b) → Printed (of_chain x) (tree.op (sign_op o) a b)
chain_printed x o a b h = record {
  alone = spelt_plain false refl h;
  compared = spelt_plain false refl h;
  left_of_sum = λ s. spelt_plain (rounds_op (LeftOf (sign_op s)) (sign_op o)) (sum_left_of_sum s o) h;
  right_of_sum = λ s. spelt_round (rounds_op (RightOf (sign_op s)) (sign_op o)) (sum_right_of_sum s o) h;
  left_of_product = λ s. spelt_round (rounds_op (LeftOf (scale_op s)) (sign_op o)) (sum_left_of_product s o) h;
  right_of_product = λ s. spelt_round (rounds_op (RightOf (scale_op s)) (sign_op o)) (sum_right_of_product s o) h;
  negated = spelt_round true refl h;
}

-- the pieces of a choice without parentheses
abbrev choice_pieces : Cmp → ExprTree → ExprTree → ExprTree → ExprTree → List Piece
choice_pieces c a b t e =
    (word_piece words.If ∷ pieces_at Compared a) ++ ((mark_piece (cmp_mark c) ∷ pieces_at Compared b)
    ++ ((word_piece words.Then ∷ pieces_at Alone t) ++ (word_piece words.Else ∷ pieces_at Alone e)))

-- a choice
choice_printed : (x : Expression) (c : Cmp) (a b t e : ExprTree) → Spelt (spell_expr x) (choice_pieces c a b t e) → Printed (of_expr x) (tree.choice c a b t e)
choice_printed x c a b t e h = record {
  alone = spelt_plain false refl h;
  compared = spelt_round true refl h;
  left_of_sum = λ s. spelt_round true refl h;
  right_of_sum = λ s. spelt_round true refl h;
  left_of_product = λ s. spelt_round true refl h;
  right_of_product = λ s. spelt_round true refl h;
  negated = spelt_round true refl h;
}

-- ---- names and paths

-- a name
name_spelt : (n : Named) → Spelt (spell_name n) (name_piece n ∷ [])
name_spelt n = spelt-cons (symbols.name n) spelt-nil

-- a path
path_spelt : (p : WrittenPath) → Spelt (spell_path p) (path_pieces (see_path p))
path_spelt p = spelt_joined spell_name (λ n. name_piece n ∷ []) name_spelt marks.Dot p

-- names with commas
names_spelt : (ns : OneOrMore Named) → Spelt (spell_names ns) (names_pieces comma (all_of ns))
names_spelt ns = spelt_joined spell_name (λ n. name_piece n ∷ []) name_spelt marks.Comma ns

-- paths with commas
paths_spelt : (ps : OneOrMore WrittenPath) → Spelt (spell_paths ps) (paths_pieces (map see_path (all_of ps)))
paths_spelt ps = spelt_joined_as spell_path path_pieces see_path path_spelt marks.Comma ps

-- ---- expressions

mutual
  -- an expression
  canonical_expr_printed : (e : Expression) → Printed (canonical_expr e) (see_expr e)
  canonical_expr_printed (choice a c b met other) =
      let pa = (canonical_chain_printed a).compared in
      let pb = (canonical_chain_printed b).compared in
      let pm = (canonical_expr_printed met).alone in
      let po = (canonical_expr_printed other).alone in
      let body = spelt-cons (symbols.word words.If) (spelt-append pa (spelt-cons (symbols.mark (cmp_mark c)) (spelt-append pb (spelt-cons (symbols.word words.Then) (spelt-append pm (spelt-cons (symbols.word words.Else) po)))))) in
      choice_printed _ c (see_chain a) (see_chain b) (see_expr met) (see_expr other) body
  canonical_expr_printed (plain c) = canonical_chain_printed c

  -- a chain
  canonical_chain_printed : (c : Chain) → Printed (canonical_chain c) (see_chain c)
  canonical_chain_printed (one_term t) = canonical_term_printed t
  canonical_chain_printed (add c sign t) =
      let p = (canonical_chain_printed c).left_of_sum sign in
      let q = (canonical_term_printed t).right_of_sum sign in
      chain_printed _ sign (see_chain c) (see_term t) (spelt-append p (spelt-cons_same (symbols.mark (sign_mark sign)) (mark_piece (op_mark (sign_op sign))) (sign_same sign) q))

  -- a term
  canonical_term_printed : (t : Term) → Printed (canonical_term t) (see_term t)
  canonical_term_printed (one_factor f) = canonical_factor_printed f
  canonical_term_printed (mul t scale f) =
      let p = (canonical_term_printed t).left_of_product scale in
      let q = (canonical_factor_printed f).right_of_product scale in
      term_printed _ scale (see_term t) (see_factor f) (spelt-append p (spelt-cons_same (symbols.mark (scale_mark scale)) (mark_piece (op_mark (scale_op scale))) (scale_same scale) q))

  -- a factor
  canonical_factor_printed : (f : Factor) → Printed (canonical_factor f) (see_factor f)
  canonical_factor_printed (negated f) =
      let p = (canonical_factor_printed f).negated in
      factor_printed _ _ (λ at. spelt-cons (symbols.mark marks.Minus) p)
  canonical_factor_printed (literal n) = factor_printed _ _ (λ at. spelt-cons (symbols.number (pos n)) spelt-nil)
  canonical_factor_printed (variable p) = factor_printed _ _ (λ at. path_spelt p)
  canonical_factor_printed (round e) = canonical_expr_printed e
  canonical_factor_printed (call k place first more) =
      let p = (canonical_expr_printed first).alone in
      let q = canonical_exprs_printed more in
      let body = spelt-cons (symbols.sub (pos k.0) (pos k.1) place) (spelt-cons (symbols.mark marks.OpenRound) (spelt-append p (spelt-append q (spelt-cons (symbols.mark marks.CloseRound) spelt-nil)))) in
      let e = append_assoc (pieces_at Alone (see_expr first)) (more_pieces (see_exprs more)) (mark_piece marks.CloseRound ∷ []) in
      factor_printed _ _ (λ at. spelt-same (ap (λ qs. sub_piece (pos k.0) (pos k.1) ∷ mark_piece marks.OpenRound ∷ qs) e) body)
  canonical_factor_printed (loop kind n first second each) =
      let p = (canonical_expr_printed first).alone in
      let q = (canonical_expr_printed second).alone in
      let r = (canonical_expr_printed each).alone in
      let comma_mark = symbols.mark marks.Comma in
      let body = spelt-cons (symbols.word (loop_word kind)) (spelt-cons (symbols.mark marks.OpenRound) (spelt-cons (symbols.name n) (spelt-cons comma_mark (spelt-append p (spelt-cons comma_mark (spelt-append q (spelt-cons comma_mark (spelt-append r (spelt-cons (symbols.mark marks.CloseRound) spelt-nil))))))))) in
      factor_printed _ _ (λ at. body)

  -- further arguments
  canonical_exprs_printed : (es : Further) → Spelt (spell_exprs (canonical_exprs es)) (more_pieces (see_exprs es))
  canonical_exprs_printed no_more = spelt-nil
  canonical_exprs_printed (and_then e more) =
      let p = (canonical_expr_printed e).alone in
      let q = canonical_exprs_printed more in
      spelt-cons (symbols.mark marks.Comma) (spelt-append p q)

-- ---- sides of equations

mutual
  -- arithmetic is no choice, so on its own it stands as it stands in a comparison
  arith_expr_alone : (e : Expression) → IsArithExpr e → pieces_at Alone (see_expr e) ≡ pieces_at Compared (see_expr e)
  arith_expr_alone (choice a c b met other) h = absurd h
  arith_expr_alone (plain c) h = arith_alone c h

  -- a chain
  arith_alone : (c : Chain) → IsArith c → pieces_at Alone (see_chain c) ≡ pieces_at Compared (see_chain c)
  arith_alone (one_term t) h = arith_term_alone t h
  arith_alone (add c sign t) h = refl

  -- a term
  arith_term_alone : (t : Term) → IsArithTerm t → pieces_at Alone (see_term t) ≡ pieces_at Compared (see_term t)
  arith_term_alone (one_factor f) h = arith_factor_alone f h
  arith_term_alone (mul t scale f) h = refl

  -- a factor
  arith_factor_alone : (f : Factor) → IsArithFactor f → pieces_at Alone (see_factor f) ≡ pieces_at Compared (see_factor f)
  arith_factor_alone (negated f) h = refl
  arith_factor_alone (literal n) h = refl
  arith_factor_alone (variable p) h = refl
  arith_factor_alone (round e) h = arith_expr_alone e h
  arith_factor_alone (call k place first more) h = absurd h
  arith_factor_alone (loop kind n first second each) h = absurd h

-- a side of an equation
side_spelt : (c : Chain) → IsArith c → Spelt (spell_chain (canonical_side c)) (expr_pieces (see_chain c))
side_spelt c h = spelt-same (arith_alone c h) (canonical_chain_printed c).compared

-- a body
body_spelt : (body : Option Expression) → Spelt (spell_option spell_body (canonical_option canonical_body body)) (body_pieces (see_option see_expr body))
body_spelt None = spelt-nil
body_spelt (Some e) =
    spelt-cons (symbols.mark marks.OpenCurly) (spelt-append (canonical_expr_printed e).alone (spelt-cons (symbols.mark marks.CloseCurly) spelt-nil))

-- ---- items

-- a binding
bind_spelt : (b : WrittenBind) → Spelt (spell_bind b) (bind_pieces (see_bind b))
bind_spelt b = spelt-append (path_spelt b.left) (spelt-cons (symbols.mark marks.Equal) (path_spelt b.right))

-- bindings, if there are any
binds_spelt : (bs : Option (OneOrMore WrittenBind)) → Spelt (spell_option spell_binds bs) (binds_pieces (map see_bind (all_if_any bs)))
binds_spelt None = spelt-nil
binds_spelt (Some bs) =
    spelt-cons (symbols.mark marks.OpenRound)
    (spelt-append (spelt_joined_as spell_bind bind_pieces see_bind bind_spelt marks.Comma bs) (spelt-cons (symbols.mark marks.CloseRound) spelt-nil))

-- what a variable is, with its bindings and the semicolon
kind_spelt : (kind : WrittenKind) → Spelt (spell_kind kind ++ (symbols.mark marks.Semicolon ∷ [])) (kind_pieces (see_kind kind) ++ (binds_pieces (see_binds kind) ++ (mark_piece marks.Semicolon ∷ [])))
kind_spelt numeric = spelt-cons (symbols.word words.Numeric) (spelt-cons (symbols.mark marks.Semicolon) spelt-nil)
kind_spelt (component n binds) = spelt-cons (symbols.name n) (spelt-append (binds_spelt binds) (spelt-cons (symbols.mark marks.Semicolon) spelt-nil))

-- a part of a relation
part_spelt : (p : WrittenPart) → Spelt (spell_part p) (part_pieces (see_part p))
part_spelt (input p) = path_spelt p
part_spelt (subtask inputs outputs) =
    let shut = spelt-cons (symbols.mark marks.CloseSquare) spelt-nil in
    let e = append_assoc (paths_pieces (map see_path (all_of inputs))) (mark_piece marks.Arrow ∷ paths_pieces (map see_path (all_of outputs))) (mark_piece marks.CloseSquare ∷ []) in
    let a = spelt-cons (symbols.mark marks.OpenSquare) (spelt-append (paths_spelt inputs) (spelt-cons (symbols.mark marks.Arrow) (spelt-append (paths_spelt outputs) shut))) in
    spelt-same (ap (λ qs. mark_piece marks.OpenSquare ∷ qs) e) a

-- parts, if there are any
parts_spelt : (ps : Option (OneOrMore WrittenPart)) → Spelt (spell_option spell_parts ps) (parts_pieces (map see_part (all_if_any ps)))
parts_spelt None = spelt-nil
parts_spelt (Some ps) = spelt_joined_as spell_part part_pieces see_part part_spelt marks.Comma ps

-- an item whose sides are arithmetic
item_spelt : (limit : ℕ) (i : WrittenItem) → IsItem limit i → Spelt (spell_item (canonical_item i)) (item_pieces (see_item i))
item_spelt limit (var ns kind) h =
    spelt-cons (symbols.word words.Var) (spelt-append (names_spelt ns) (spelt-cons (symbols.mark marks.Colon) (kind_spelt kind)))
item_spelt limit (eq left right) h =
    spelt-cons (symbols.word words.Eq)
    (spelt-append (side_spelt left h.0.1) (spelt-cons (symbols.mark marks.Equal) (spelt-append (side_spelt right h.1.1) (spelt-cons (symbols.mark marks.Semicolon) spelt-nil))))
item_spelt limit (rel n parts output body) h =
    let tail = spelt-append (body_spelt body) (spelt-cons (symbols.mark marks.Semicolon) spelt-nil) in
    spelt-cons (symbols.word words.Rel) (spelt-cons (symbols.name n) (spelt-cons (symbols.mark marks.Colon)
    (spelt-append (parts_spelt parts) (spelt-cons (symbols.mark marks.Arrow) (spelt-append (path_spelt output) tail)))))

-- ---- concepts

-- parents, if there are any
parents_spelt : (ns : Option (OneOrMore Named)) → Spelt (spell_option spell_parents ns) (parents_pieces (all_if_any ns))
parents_spelt None = spelt-nil
parents_spelt (Some ns) = spelt-cons (symbols.word words.Is) (names_spelt ns)

-- items in a row
items_spelt : (limit : ℕ) (items : List WrittenItem) → All (IsItem limit) items → Spelt (flat_map spell_item (map canonical_item items)) (flat_map item_pieces (map see_item items))
items_spelt limit = spelt_row_of (IsItem limit) spell_item item_pieces canonical_item see_item (item_spelt limit)

-- a concept
concept_spelt : (limit : ℕ) (c : WrittenConcept) → IsConcept limit c → Spelt (spell_concept (canonical_concept c)) (concept_pieces (see_concept c))
concept_spelt limit c h =
    let shut = spelt-cons (symbols.mark marks.CloseRound) (spelt-cons (symbols.mark marks.Semicolon) spelt-nil) in
    let inside = spelt-append (items_spelt limit c.items h) shut in
    let a = spelt-cons (symbols.word words.Concept) (spelt-cons (symbols.name c.name) (spelt-append (parents_spelt c.parents) (spelt-cons (symbols.mark marks.Colon) (spelt-cons (symbols.mark marks.OpenRound) inside)))) in
    let e = append_assoc (parents_pieces (all_if_any c.parents)) (mark_piece marks.Colon ∷ mark_piece marks.OpenRound ∷ []) (flat_map item_pieces (map see_item c.items) ++ (mark_piece marks.CloseRound ∷ mark_piece marks.Semicolon ∷ [])) in
    spelt-same (ap (λ qs. word_piece words.Concept ∷ name_piece c.name ∷ qs) e) a

-- concepts in a row
concepts_spelt : (limit : ℕ) (cs : List WrittenConcept) → All (IsConcept limit) cs → Spelt (flat_map spell_concept (map canonical_concept cs)) (flat_map concept_pieces (map see_concept cs))
concepts_spelt limit = spelt_row_of (IsConcept limit) spell_concept concept_pieces canonical_concept see_concept (concept_spelt limit)

-- ---- numbers

-- a numerator with its sign, before other pieces
signed_spelt : (z : ℤ) {xs : List Symbol} {ps : List Piece} → Spelt xs ps → Spelt (spell_minus (has_minus z) ++ (symbols.number (pos (unsigned_abs z)) ∷ xs)) (signed_pieces z ++ ps)
signed_spelt (pos n) a = spelt-cons (symbols.number (pos n)) a
signed_spelt (negsuc n) a = spelt-cons (symbols.mark marks.Minus) (spelt-cons (symbols.number (pos (suc n))) a)

-- a denominator, if it is to stand there
below_if : (d : ℕ) (whole : Bool) → Spelt (spell_option spell_below (if whole then None else Some d)) (if whole then [] else mark_piece marks.Slash ∷ number_piece (pos (suc d)) ∷ [])
below_if d true = spelt-nil
below_if d false = spelt-cons (symbols.mark marks.Slash) (spelt-cons (symbols.number (pos (suc d))) spelt-nil)

-- a denominator that is positive
below_spelt : (d : ℕ) → 0 < d → Spelt (spell_option spell_below (written_below d)) (if d == 1 then [] else mark_piece marks.Slash ∷ number_piece (pos d) ∷ [])
below_spelt zero h = absurd (omega arith)
below_spelt (suc d) h = below_if d (suc d == 1)

-- a fraction
ratio_spelt : (x : Ratio) → 0 < x.den → Spelt (spell_value (written_ratio x)) (mark_piece marks.Equal ∷ fraction_pieces x)
ratio_spelt x h = spelt-cons (symbols.mark marks.Equal) (signed_spelt x.num (below_spelt x.den h))

-- a value, if there is one
value_spelt : (v : Option WrittenNumber) → Spelt (spell_option spell_value (canonical_option canonical_value v)) (value_pieces (see_option see_value v))
value_spelt None = spelt-nil
value_spelt (Some x) = ratio_spelt (see_value x) (value_positive x)

-- ---- compute statements

-- what is given
given_spelt : (g : WrittenGiven) → Spelt (spell_given (canonical_given g)) (given_pieces (see_given g))
given_spelt g = spelt-append (path_spelt g.path) (value_spelt g.value)

-- all that is given, if anything is
givens_spelt : (gs : Option (OneOrMore WrittenGiven)) → Spelt (spell_option spell_givens (canonical_option (canonical_parts canonical_given) gs)) (givens_pieces (map see_given (all_if_any gs)))
givens_spelt None = spelt-nil
givens_spelt (Some gs) =
    spelt-cons (symbols.word words.Given)
    (spelt-append (spelt_joined_seen spell_given given_pieces canonical_given see_given given_spelt marks.Comma gs) (spelt-cons (symbols.mark marks.Semicolon) spelt-nil))

-- a compute statement
compute_spelt : (c : WrittenCompute) → Spelt (spell_compute (canonical_compute c)) (compute_pieces (see_compute c))
compute_spelt c =
    let shut = spelt-cons (symbols.mark marks.CloseRound) (spelt-cons (symbols.mark marks.Semicolon) spelt-nil) in
    let wants = spelt-cons (symbols.word words.Find) (spelt-append (paths_spelt c.wants) shut) in
    spelt-cons (symbols.word words.Compute) (spelt-cons (symbols.name c.name) (spelt-cons (symbols.mark marks.Colon) (spelt-cons (symbols.mark marks.OpenRound)
    (spelt-append (givens_spelt c.givens) wants))))

-- ---- files

-- a file, with the end of its text
file_spelt : (limit : ℕ) (w : WrittenFile) → IsFile limit w → Spelt (spell_file (canonical_file w)) (file_pieces (see_file w) ++ (symbol_piece end ∷ []))
file_spelt limit w h =
    let computes = spelt_row_seen spell_compute compute_pieces canonical_compute see_compute compute_spelt w.computes in
    let a = spelt-append (concepts_spelt limit w.concepts h) (spelt-append computes (spelt-cons end spelt-nil)) in
    spelt-same
    (append_assoc (flat_map concept_pieces (map see_concept w.concepts)) (flat_map compute_pieces (map see_compute w.computes)) (symbol_piece end ∷ []))
    a

-- the canonical form of a file has the pieces of the file's tree, and the end
pub canonical_pieces : (limit : ℕ) (w : WrittenFile) → IsFile limit w → file_pieces (see_file w) ++ (symbol_piece end ∷ []) ≡ map symbol_piece (spell_file (canonical_file w))
canonical_pieces limit w h = (file_spelt limit w h).same
