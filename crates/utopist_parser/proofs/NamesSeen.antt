-- The names of what is written, in its symbols and in its tree.
use Rattle.std.proofs.Common.{◌≡◌, ℕ, List, [], ◌∷◌, ◌++◌, map, Option, Some, None, refl, sym, ap, ◌∙◌}
use Rattle.std.specs.Prelude.{ℤ, pos, suc, Bool, true, false}
use Rattle.std.specs.List.{flat_map}
use Rattle.std.proofs.lemmas.List.{append-nil}
use Rattle.priz_base.specs.declared.place.Place.{Place}
use Rattle.utopist_lexer.specs.declared.mark.Mark.{Mark}
use Rattle.utopist_lexer.specs.declared.mark.Mark.TheVariants as marks
use Rattle.utopist_lexer.specs.declared.token.Kind.{Kind}
use Rattle.utopist_lexer.specs.declared.token.Kind.TheVariants as kinds
use Rattle.utopist_lexer.specs.declared.word.Word.TheVariants as words
use Rattle.utopist_syntax.specs.Named.{Named}
use Rattle.utopist_syntax.specs.TreeNames.{tree_names, trees_names, paths_names, kind_names, bind_names, part_names, body_names, item_names, names_in_concept, compute_names, file_names}
use Rattle.utopist_syntax.specs.declared.path.Path.{Path}
use Rattle.token_forms.specs.Symbols.{Symbol, name, sub, fixed}
use Rattle.token_forms.specs.Lists.{OneOrMore}
use Rattle.utopist_parser.specs.Written.{WrittenPath, Expression, choice, plain, Chain, one_term, add, Term, one_factor, mul, Factor, negated, literal, variable, round, call, loop, Further, no_more, and_then}
use Rattle.utopist_parser.specs.WrittenFile.{WrittenBind, WrittenKind, numeric, component, WrittenPart, input, subtask, WrittenItem, var, eq, rel, WrittenConcept, WrittenNumber, WrittenGiven, WrittenCompute, WrittenFile}
use Rattle.token_forms.specs.Lists.{behind, separated}
use Rattle.utopist_parser.specs.ExprSymbols.{spell_name, spell_path, sign_mark, scale_mark, cmp_mark, loop_word, spell_expr, spell_chain, spell_term, spell_factor, spell_exprs}
use Rattle.token_forms.specs.Lists.{all_of}
use Rattle.utopist_parser.specs.ExprTree.{see_expr, see_chain, see_term, see_factor, see_exprs}
use Rattle.token_forms.specs.Lists.{spell_option}
use Rattle.utopist_parser.specs.FileSymbols.{spell_paths, spell_bind, spell_binds, spell_kind, spell_part, spell_parts, spell_body, spell_item, spell_parents, spell_concept, spell_below, spell_minus, spell_value, spell_given, spell_givens, spell_compute, spell_file}
use Rattle.utopist_parser.specs.FileSeen.{all_if_any, see_option, see_path, see_bind, see_kind, see_binds, see_part, see_item, see_concept, see_given, see_compute, see_file}

-- the names among symbols
abbrev pub names_in : List Symbol → List Named
names_in [] = []
names_in (name n ∷ cs) = n ∷ names_in cs
names_in (sub i j p ∷ cs) = names_in cs
names_in (fixed k ∷ cs) = names_in cs

pub names-append : (xs ys : List Symbol) → names_in (xs ++ ys) ≡ names_in xs ++ names_in ys
names-append [] ys = refl
names-append (name n ∷ xs) ys = ap (λ (l : List Named). n ∷ l) (names-append xs ys)
names-append (sub i j p ∷ xs) ys = names-append xs ys
names-append (fixed k ∷ xs) ys = names-append xs ys

-- these are the names among these symbols
record HasNames (ts : List Symbol) (ns : List Named) : Type 0 where
  pub are : names_in ts ≡ ns

-- ---- forms

nothing : HasNames [] []
nothing = record { are = refl }

-- one form behind another
both : {xs ys : List Symbol} {ns ms : List Named} → HasNames xs ns → HasNames ys ms → HasNames (xs ++ ys) (ns ++ ms)
both {xs} {ys} r s = record { are = names-append xs ys ∙ (λ i. r.are i ++ s.are i) }

-- a form, and behind it one without names
before : {xs ys : List Symbol} {ns : List Named} → HasNames xs ns → HasNames ys [] → HasNames (xs ++ ys) ns
before {xs} {ys} {ns} r s = record { are = (both r s).are ∙ append-nil ns }

-- a token of which the kind alone counts, before a form
fixed_then : {ys : List Symbol} {ms : List Named} (k : Kind) → HasNames ys ms → HasNames (fixed k ∷ ys) ms
fixed_then k s = record { are = s.are }

-- the number of a subtask before a form
sub_then : {ys : List Symbol} {ms : List Named} (i j : ℤ) (p : Place) → HasNames ys ms → HasNames (sub i j p ∷ ys) ms
sub_then i j p s = record { are = s.are }

-- a name before a form
name_then : {ys : List Symbol} {ms : List Named} (n : Named) → HasNames ys ms → HasNames (name n ∷ ys) (n ∷ ms)
name_then n s = record { are = ap (λ (l : List Named). n ∷ l) s.are }

-- the same names
form : {ts : List Symbol} {ns ms : List Named} → ns ≡ ms → HasNames ts ns → HasNames ts ms
form e r = record { are = r.are ∙ e }

-- a mark at the end
closed : {xs : List Symbol} {ns : List Named} (m : Mark) → HasNames xs ns → HasNames (xs ++ (fixed (kinds.Mark m) ∷ [])) ns
closed m r = before r (fixed_then (kinds.Mark m) nothing)

-- forms that stand one behind another
many : {X : Type 0} (spell : X → List Symbol) (names : X → List Named) → ((x : X) → HasNames (spell x) (names x)) → (xs : List X) → HasNames (flat_map spell xs) (flat_map names xs)
many spell names h [] = nothing
many spell names h (x ∷ xs) = both (h x) (many spell names h xs)

-- part {SEPARATOR part}
parted : {X : Type 0} (m : Mark) (spell : X → List Symbol) (names : X → List Named) → ((x : X) → HasNames (spell x) (names x))
    → (xs : OneOrMore X) → HasNames (separated m spell xs) (flat_map names (all_of xs))
parted m spell names h xs = both (h xs.first) (many (behind m spell) names (λ x. fixed_then (kinds.Mark m) (h x)) xs.more)

-- the parts, where there are any
if_any : {X : Type 0} (spell : OneOrMore X → List Symbol) (names : X → List Named) → ((xs : OneOrMore X) → HasNames (spell xs) (flat_map names (all_of xs)))
    → (o : Option (OneOrMore X)) → HasNames (spell_option spell o) (flat_map names (all_if_any o))
if_any spell names h None = nothing
if_any spell names h (Some xs) = h xs

-- the names of what is seen of each
seen : {X V : Type 0} (see : X → V) (names : V → List Named) (xs : List X) → flat_map (λ x. names (see x)) xs ≡ flat_map names (map see xs)
seen see names [] = refl
seen see names (x ∷ xs) = ap (λ (l : List Named). names (see x) ++ l) (seen see names xs)

-- names are those of each
singles : (ns : List Named) → flat_map (λ n. n ∷ []) ns ≡ ns
singles [] = refl
singles (n ∷ ns) = ap (λ (l : List Named). n ∷ l) (singles ns)

-- ---- names and paths

names_parted : (m : Mark) (ns : OneOrMore Named) → HasNames (separated m spell_name ns) (all_of ns)
names_parted m ns = form (singles (all_of ns)) (parted m spell_name (λ n. n ∷ []) (λ n. name_then n nothing) ns)

path_has : (p : WrittenPath) → HasNames (spell_path p) (all_of p)
path_has p = names_parted marks.Dot p

paths_have : (ps : OneOrMore WrittenPath) → HasNames (spell_paths ps) (paths_names (map see_path (all_of ps)))
paths_have ps = form (seen see_path (λ (p : Path). p.parts) (all_of ps)) (parted marks.Comma spell_path (λ p. all_of p) path_has ps)

-- ---- expressions

mutual
  expr_has : (e : Expression) → HasNames (spell_expr e) (tree_names (see_expr e))
  expr_has (choice a c b met other) =
      fixed_then (kinds.Word words.If) (both (chain_has a) (fixed_then (kinds.Mark (cmp_mark c)) (both (chain_has b) (fixed_then (kinds.Word words.Then) (both (expr_has met) (fixed_then (kinds.Word words.Else) (expr_has other)))))))
  expr_has (plain c) = chain_has c

  chain_has : (c : Chain) → HasNames (spell_chain c) (tree_names (see_chain c))
  chain_has (one_term t) = term_has t
  chain_has (add c sign t) = both (chain_has c) (fixed_then (kinds.Mark (sign_mark sign)) (term_has t))

  term_has : (t : Term) → HasNames (spell_term t) (tree_names (see_term t))
  term_has (one_factor f) = factor_has f
  term_has (mul t scale f) = both (term_has t) (fixed_then (kinds.Mark (scale_mark scale)) (factor_has f))

  factor_has : (f : Factor) → HasNames (spell_factor f) (tree_names (see_factor f))
  factor_has (negated f) = fixed_then (kinds.Mark marks.Minus) (factor_has f)
  factor_has (literal n) = fixed_then (kinds.Number (pos n)) nothing
  factor_has (variable p) = path_has p
  factor_has (round e) = fixed_then (kinds.Mark marks.OpenRound) (closed marks.CloseRound (expr_has e))
  factor_has (call k place first more) = sub_then (pos k.0) (pos k.1) place (fixed_then (kinds.Mark marks.OpenRound) (both (expr_has first) (closed marks.CloseRound (exprs_have more))))
  factor_has (loop kind n first second each) =
      fixed_then (kinds.Word (loop_word kind)) (fixed_then (kinds.Mark marks.OpenRound) (name_then n
      (fixed_then (kinds.Mark marks.Comma) (both (expr_has first) (fixed_then (kinds.Mark marks.Comma) (both (expr_has second) (fixed_then (kinds.Mark marks.Comma) (closed marks.CloseRound (expr_has each)))))))))

  exprs_have : (es : Further) → HasNames (spell_exprs es) (trees_names (see_exprs es))
  exprs_have no_more = nothing
  exprs_have (and_then e more) = fixed_then (kinds.Mark marks.Comma) (both (expr_has e) (exprs_have more))

-- ---- items

bind_has : (b : WrittenBind) → HasNames (spell_bind b) (bind_names (see_bind b))
bind_has b = both (path_has b.left) (fixed_then (kinds.Mark marks.Equal) (path_has b.right))

binds_have : (bs : OneOrMore WrittenBind) → HasNames (spell_binds bs) (flat_map (λ b. bind_names (see_bind b)) (all_of bs))
binds_have bs = fixed_then (kinds.Mark marks.OpenRound) (closed marks.CloseRound (parted marks.Comma spell_bind (λ b. bind_names (see_bind b)) bind_has bs))

kind_has : (k : WrittenKind) → HasNames (spell_kind k) (kind_names (see_kind k) ++ flat_map bind_names (see_binds k))
kind_has numeric = fixed_then (kinds.Word words.Numeric) nothing
kind_has (component n binds) = name_then n (form (seen see_bind bind_names (all_if_any binds)) (if_any spell_binds (λ b. bind_names (see_bind b)) binds_have binds))

part_has : (p : WrittenPart) → HasNames (spell_part p) (part_names (see_part p))
part_has (input p) = path_has p
part_has (subtask inputs outputs) =
    fixed_then (kinds.Mark marks.OpenSquare) (both (paths_have inputs) (fixed_then (kinds.Mark marks.Arrow) (closed marks.CloseSquare (paths_have outputs))))

parts_have : (ps : OneOrMore WrittenPart) → HasNames (spell_parts ps) (flat_map (λ p. part_names (see_part p)) (all_of ps))
parts_have ps = parted marks.Comma spell_part (λ p. part_names (see_part p)) part_has ps

body_has : (o : Option Expression) → HasNames (spell_option spell_body o) (body_names (see_option see_expr o))
body_has None = nothing
body_has (Some e) = fixed_then (kinds.Mark marks.OpenCurly) (closed marks.CloseCurly (expr_has e))

item_has : (i : WrittenItem) → HasNames (spell_item i) (item_names (see_item i))
item_has (var ns kind) =
    fixed_then (kinds.Word words.Var) (both (names_parted marks.Comma ns) (fixed_then (kinds.Mark marks.Colon) (closed marks.Semicolon (kind_has kind))))
item_has (eq left right) =
    fixed_then (kinds.Word words.Eq) (both (chain_has left) (fixed_then (kinds.Mark marks.Equal) (closed marks.Semicolon (chain_has right))))
item_has (rel n parts output body) =
    fixed_then (kinds.Word words.Rel) (name_then n (fixed_then (kinds.Mark marks.Colon)
    (both (form (seen see_part part_names (all_if_any parts)) (if_any spell_parts (λ p. part_names (see_part p)) parts_have parts))
    (fixed_then (kinds.Mark marks.Arrow) (both (path_has output) (closed marks.Semicolon (body_has body)))))))

-- ---- concepts, compute statements and files

-- two marks at the end
closed_twice : {xs : List Symbol} {ns : List Named} → HasNames xs ns → HasNames (xs ++ (fixed (kinds.Mark marks.CloseRound) ∷ fixed (kinds.Mark marks.Semicolon) ∷ [])) ns
closed_twice r = before r (fixed_then (kinds.Mark marks.CloseRound) (fixed_then (kinds.Mark marks.Semicolon) nothing))

parents_have : (ns : OneOrMore Named) → HasNames (spell_parents ns) (flat_map (λ n. n ∷ []) (all_of ns))
parents_have ns = form (sym (singles (all_of ns))) (fixed_then (kinds.Word words.Is) (names_parted marks.Comma ns))

concept_has : (c : WrittenConcept) → HasNames (spell_concept c) (names_in_concept (see_concept c))
concept_has c =
    fixed_then (kinds.Word words.Concept) (name_then c.name
    (both (form (singles (all_if_any c.parents)) (if_any spell_parents (λ n. n ∷ []) parents_have c.parents))
    (fixed_then (kinds.Mark marks.Colon) (fixed_then (kinds.Mark marks.OpenRound)
    (closed_twice (form (seen see_item item_names c.items) (many spell_item (λ i. item_names (see_item i)) item_has c.items)))))))

-- a number has none
minus_has : (b : Bool) → HasNames (spell_minus b) []
minus_has true = fixed_then (kinds.Mark marks.Minus) nothing
minus_has false = nothing

value_has : (o : Option WrittenNumber) → HasNames (spell_option spell_value o) []
value_has None = nothing
value_has (Some x) = fixed_then (kinds.Mark marks.Equal) (before (minus_has x.negative) (fixed_then (kinds.Number (pos x.above)) (below_has x.below))) where
  below_has : (o : Option ℕ) → HasNames (spell_option spell_below o) []
  below_has None = nothing
  below_has (Some d) = fixed_then (kinds.Mark marks.Slash) (fixed_then (kinds.Number (pos (suc d))) nothing)

given_has : (g : WrittenGiven) → HasNames (spell_given g) (all_of g.path)
given_has g = before (path_has g.path) (value_has g.value)

givens_have : (gs : OneOrMore WrittenGiven) → HasNames (spell_givens gs) (flat_map (λ g. all_of g.path) (all_of gs))
givens_have gs = fixed_then (kinds.Word words.Given) (closed marks.Semicolon (parted marks.Comma spell_given (λ g. all_of g.path) given_has gs))

compute_has : (c : WrittenCompute) → HasNames (spell_compute c) (compute_names (see_compute c))
compute_has c =
    fixed_then (kinds.Word words.Compute) (name_then c.name (fixed_then (kinds.Mark marks.Colon) (fixed_then (kinds.Mark marks.OpenRound)
    (both (form (seen see_given (λ g. g.path.parts) (all_if_any c.givens)) (if_any spell_givens (λ g. all_of g.path) givens_have c.givens))
    (fixed_then (kinds.Word words.Find) (closed_twice (paths_have c.wants)))))))

file_has : (w : WrittenFile) → HasNames (spell_file w) (file_names (see_file w))
file_has w =
    both (form (seen see_concept names_in_concept w.concepts) (many spell_concept (λ c. names_in_concept (see_concept c)) concept_has w.concepts))
    (before (form (seen see_compute compute_names w.computes) (many spell_compute (λ c. compute_names (see_compute c)) compute_has w.computes)) (fixed_then kinds.End nothing))

-- the names of a file are those among its symbols, in order
pub names-seen : (w : WrittenFile) → names_in (spell_file w) ≡ file_names (see_file w)
names-seen w = (file_has w).are
