-- A tree that was read can be printed.
use Rattle.std.proofs.Common.{◌≡◌, ◌≤◌, ℕ, ◌/◌, Bool, true, false, List, [], ◌∷◌, map, Option, Some, None, refl, sym, subst, arith}
use Rattle.std.specs.Prelude.{ℤ, pos, negsuc, suc, unsigned_abs}
use Rattle.std.specs.List.{AllByRecursion}
use Rattle.std.specs.Str.{IsUtf8}
use Rattle.std.proofs.Math.Nat.{div-le_self}
use Rattle.priz_frac.specs.Gcd.{gcd}
use Rattle.priz_frac.specs.Lowest.{low, signed_as}
use Rattle.priz_frac.specs.Sign.{signed_number, signed_ratio}
use Rattle.priz_frac.proofs.Lowest.{abs-neg}
use Rattle.utopist_lexer.specs.declared.mark.Mark.TheVariants as marks
use Rattle.utopist_lexer.specs.declared.token.Kind.TheVariants as kinds
use Rattle.utopist_lexer.specs.declared.word.Word.TheVariants as words
use Rattle.utopist_lexer.specs.Lexical.{max_number}
use Rattle.utopist_syntax.specs.Named.{Named}
use Rattle.utopist_syntax.specs.FileTree.{FileTree}
use Rattle.token_forms.specs.Symbols.{Symbol, symbol_of, end}
use Rattle.utopist_parser.specs.Written as written
use Rattle.utopist_parser.specs.Written.{WrittenPath, Expression}
use Rattle.utopist_parser.specs.WrittenFile.{WrittenBind, WrittenKind, numeric, component, WrittenPart, input, subtask, WrittenItem, var, eq, rel, WrittenConcept, WrittenNumber, WrittenGiven, WrittenCompute, WrittenFile}
use Rattle.utopist_parser.specs.ExprSymbols.{spell_name, spell_path}
use Rattle.token_forms.specs.Lists.{OneOrMore, all_of, spell_option}
use Rattle.utopist_parser.specs.ExprTree.{see_expr}
use Rattle.utopist_parser.specs.FileSymbols.{spell_names, spell_paths, spell_bind, spell_binds, spell_kind, spell_part, spell_parts, spell_body, spell_item, spell_parents, spell_concept, spell_below, spell_minus, spell_value, spell_given, spell_givens, spell_compute, spell_file}
use Rattle.utopist_parser.specs.FileSeen.{all_if_any, see_option, see_path, see_bind, see_kind, see_binds, see_part, see_item, see_concept, denominator, see_value, see_given, see_compute, see_file}
use Rattle.utopist_parser.specs.Forms.{ReadsAs}
use Rattle.canonical_reading.proofs.PrintableParts.{SomeAndAll, PrintableName, PrintableNames, PrintablePath, PrintableKind, PrintableBind, PrintablePart, PrintableBody, PrintableItem, PrintableConcept, PrintableFraction, PrintableValue, PrintableGiven, PrintableCompute, PrintableFile}
use Rattle.canonical_reading.proofs.GoodSymbols.{AllGood, AllGood-append, tokens_good}
use Rattle.canonical_reading.proofs.ReadableExpr.{GoodGives, nothing, both, fixed_then, name_then, number_then, form, many, parted, all_seen, name_readable, path_readable, expr_readable, chain_readable}

-- ---- forms that may be left out

-- one or more of what is seen
parts_seen : {X V : Type 0} (see : X → V) (P : V → Type 0) (xs : OneOrMore X) → SomeAndAll (λ x. P (see x)) (all_of xs) → SomeAndAll P (map see (all_of xs))
parts_seen see P xs h = (h.0, all_seen see P xs.more h.1)

-- the parts, where there are any
if_any : {X : Type 0} (spell : OneOrMore X → List Symbol) (P : X → Type 0) → ((xs : OneOrMore X) → GoodGives (spell xs) (SomeAndAll P (all_of xs)))
    → (o : Option (OneOrMore X)) → GoodGives (spell_option spell o) (AllByRecursion P (all_if_any o))
if_any spell P h None = form (λ _. tt) nothing
if_any spell P h (Some xs) = form (λ p. p) (h xs)

-- ---- items

-- names joined by commas
names_readable : (ns : OneOrMore Named) → GoodGives (spell_names ns) (PrintableNames (all_of ns))
names_readable ns = parted marks.Comma spell_name PrintableName name_readable ns

-- paths joined by commas
paths_readable : (ps : OneOrMore WrittenPath) → GoodGives (spell_paths ps) (SomeAndAll PrintablePath (map see_path (all_of ps)))
paths_readable ps = form (λ h. parts_seen see_path PrintablePath ps h) (parted marks.Comma spell_path (λ p. PrintablePath (see_path p)) path_readable ps)

-- a binding
bind_readable : (b : WrittenBind) → GoodGives (spell_bind b) (PrintableBind (see_bind b))
bind_readable b = form (λ p. p) (both (path_readable b.left) (fixed_then (kinds.Mark marks.Equal) (path_readable b.right)))

-- bindings in parentheses
binds_readable : (bs : OneOrMore WrittenBind) → GoodGives (spell_binds bs) (SomeAndAll (λ b. PrintableBind (see_bind b)) (all_of bs))
binds_readable bs =
    form (λ p. p.0)
    (fixed_then (kinds.Mark marks.OpenRound) (both (parted marks.Comma spell_bind (λ b. PrintableBind (see_bind b)) bind_readable bs) (fixed_then (kinds.Mark marks.CloseRound) nothing)))

-- a kind and its bindings
kind_readable : (k : WrittenKind) → GoodGives (spell_kind k) (PrintableKind (see_kind k) × AllByRecursion PrintableBind (see_binds k))
kind_readable numeric = form (λ _. (tt, tt)) (fixed_then (kinds.Word words.Numeric) nothing)
kind_readable (component n binds) =
    form (λ p. (p.0, all_seen see_bind PrintableBind (all_if_any binds) p.1)) (name_then n (if_any spell_binds (λ b. PrintableBind (see_bind b)) binds_readable binds))

-- a part
part_readable : (p : WrittenPart) → GoodGives (spell_part p) (PrintablePart (see_part p))
part_readable (input p) = form (λ h. h) (path_readable p)
part_readable (subtask inputs outputs) =
    form (λ p. (p.0, p.1.0))
    (fixed_then (kinds.Mark marks.OpenSquare) (both (paths_readable inputs) (fixed_then (kinds.Mark marks.Arrow) (both (paths_readable outputs) (fixed_then (kinds.Mark marks.CloseSquare) nothing)))))

-- parts joined by commas
parts_readable : (ps : OneOrMore WrittenPart) → GoodGives (spell_parts ps) (SomeAndAll (λ p. PrintablePart (see_part p)) (all_of ps))
parts_readable ps = parted marks.Comma spell_part (λ p. PrintablePart (see_part p)) part_readable ps

-- a body, where there is one
body_readable : (o : Option Expression) → GoodGives (spell_option spell_body o) (PrintableBody (see_option see_expr o))
body_readable None = form (λ _. tt) nothing
body_readable (Some e) = form (λ p. p.0) (fixed_then (kinds.Mark marks.OpenCurly) (both (expr_readable e) (fixed_then (kinds.Mark marks.CloseCurly) nothing)))

-- an item
item_readable : (i : WrittenItem) → GoodGives (spell_item i) (PrintableItem (see_item i))
item_readable (var ns kind) =
    form (λ p. (p.0, p.1.0.0, p.1.0.1))
    (fixed_then (kinds.Word words.Var) (both (names_readable ns) (fixed_then (kinds.Mark marks.Colon) (both (kind_readable kind) (fixed_then (kinds.Mark marks.Semicolon) nothing)))))
item_readable (eq left right) =
    form (λ p. (p.0, p.1.0))
    (fixed_then (kinds.Word words.Eq) (both (chain_readable left) (fixed_then (kinds.Mark marks.Equal) (both (chain_readable right) (fixed_then (kinds.Mark marks.Semicolon) nothing)))))
item_readable (rel n parts output body) =
    form (λ p. (p.0, all_seen see_part PrintablePart (all_if_any parts) p.1.0, p.1.1.0, p.1.1.1.0))
    (fixed_then (kinds.Word words.Rel) (name_then n (fixed_then (kinds.Mark marks.Colon) (both (if_any spell_parts (λ p. PrintablePart (see_part p)) parts_readable parts) (fixed_then (kinds.Mark marks.Arrow) (both (path_readable output) (both (body_readable body) (fixed_then (kinds.Mark marks.Semicolon) nothing))))))))

-- ---- concepts

-- parents
parents_readable : (ns : OneOrMore Named) → GoodGives (spell_parents ns) (PrintableNames (all_of ns))
parents_readable ns = form (λ p. p) (fixed_then (kinds.Word words.Is) (names_readable ns))

-- a concept
concept_readable : (c : WrittenConcept) → GoodGives (spell_concept c) (PrintableConcept (see_concept c))
concept_readable c =
    form (λ p. record { name = p.0; parents = p.1.0; items = all_seen see_item PrintableItem c.items p.1.1.0 })
    (fixed_then (kinds.Word words.Concept) (name_then c.name (both (if_any spell_parents PrintableName parents_readable c.parents) (fixed_then (kinds.Mark marks.Colon) (fixed_then (kinds.Mark marks.OpenRound) (both (many spell_item (λ i. PrintableItem (see_item i)) item_readable c.items) (fixed_then (kinds.Mark marks.CloseRound) (fixed_then (kinds.Mark marks.Semicolon) nothing))))))))

-- ---- compute statements

-- a sign leaves the number that it stands before
abs-signed_as : (z : ℤ) (n : ℕ) → unsigned_abs (signed_as z n) ≡ n
abs-signed_as (pos z) n = refl
abs-signed_as (negsuc z) n = abs-neg n

-- so does a sign that stands apart from it
abs-signed_number : (b : Bool) (n : ℕ) → unsigned_abs (signed_number b (pos n)) ≡ n
abs-signed_number true n = abs-neg n
abs-signed_number false n = refl

-- no quotient is past what is divided
quotient_within : (n d limit : ℕ) → n ≤ limit → n / d ≤ limit
quotient_within n d limit h = omega (arith, h, div-le_self n d)

-- lowest terms are within the limits of the terms
low_printable : (b : Bool) (n d : ℕ) → n ≤ max_number → d ≤ max_number → PrintableFraction (low (signed_ratio b n d))
low_printable b n d h k =
    let x = signed_ratio b n d in
    let g = gcd (unsigned_abs x.num) d in
    record {
      num = subst (λ (m : ℕ). m ≤ max_number) (sym (abs-signed_as x.num (unsigned_abs x.num / g))) (quotient_within (unsigned_abs x.num) g max_number (subst (λ (m : ℕ). m ≤ max_number) (sym (abs-signed_number b n)) h));
      den = quotient_within d g max_number k;
    }

-- a minus says nothing
minus_readable : (b : Bool) → GoodGives (spell_minus b) (Unit {0})
minus_readable true = form (λ _. tt) (fixed_then (kinds.Mark marks.Minus) nothing)
minus_readable false = nothing

-- the denominator is within the limit, where none is written too
below_readable : (o : Option ℕ) → GoodGives (spell_option spell_below o) (denominator o ≤ max_number)
below_readable None = form (λ _. let e : 1 ≤ max_number = omega arith in e) nothing
below_readable (Some d) = form (λ p. p.0) (fixed_then (kinds.Mark marks.Slash) (number_then (pos (suc d)) nothing))

-- a number, where there is one
value_readable : (o : Option WrittenNumber) → GoodGives (spell_option spell_value o) (PrintableValue (see_option see_value o))
value_readable None = form (λ _. tt) nothing
value_readable (Some x) =
    form (λ p. low_printable x.negative x.above (denominator x.below) p.1.0 p.1.1)
    (fixed_then (kinds.Mark marks.Equal) (both (minus_readable x.negative) (number_then (pos x.above) (below_readable x.below))))

-- a given
given_readable : (g : WrittenGiven) → GoodGives (spell_given g) (PrintableGiven (see_given g))
given_readable g = form (λ p. p) (both (path_readable g.path) (value_readable g.value))

-- what is given
givens_readable : (gs : OneOrMore WrittenGiven) → GoodGives (spell_givens gs) (SomeAndAll (λ g. PrintableGiven (see_given g)) (all_of gs))
givens_readable gs =
    form (λ p. p.0) (fixed_then (kinds.Word words.Given) (both (parted marks.Comma spell_given (λ g. PrintableGiven (see_given g)) given_readable gs) (fixed_then (kinds.Mark marks.Semicolon) nothing)))

-- a compute statement
compute_readable : (c : WrittenCompute) → GoodGives (spell_compute c) (PrintableCompute (see_compute c))
compute_readable c =
    form (λ p. record { name = p.0; givens = all_seen see_given PrintableGiven (all_if_any c.givens) p.1.0; wants = p.1.1.0 })
    (fixed_then (kinds.Word words.Compute) (name_then c.name (fixed_then (kinds.Mark marks.Colon) (fixed_then (kinds.Mark marks.OpenRound) (both (if_any spell_givens (λ g. PrintableGiven (see_given g)) givens_readable c.givens) (fixed_then (kinds.Word words.Find) (both (paths_readable c.wants) (fixed_then (kinds.Mark marks.CloseRound) (fixed_then (kinds.Mark marks.Semicolon) nothing)))))))))

-- ---- files

-- a file of good symbols can be printed
file_readable : (w : WrittenFile) → GoodGives (spell_file w) (PrintableFile (see_file w))
file_readable w =
    form (λ p. record { concepts = all_seen see_concept PrintableConcept w.concepts p.0; computes = all_seen see_compute PrintableCompute w.computes p.1.0 })
    (both (many spell_concept (λ c. PrintableConcept (see_concept c)) concept_readable w.concepts) (both (many spell_compute (λ c. PrintableCompute (see_compute c)) compute_readable w.computes) (fixed_then kinds.End nothing)))

-- what a text reads as can be printed
pub readable_prints : (text : List ℕ) → IsUtf8 text → (f : FileTree) → ReadsAs text f → PrintableFile f
readable_prints text u f r =
    let good = AllGood-append (map symbol_of r.tokens) (end ∷ []) (tokens_good text r.tokens u r.read) (tt, tt) in
    subst PrintableFile r.tree ((file_readable r.written).shows (subst AllGood r.grammar good))
