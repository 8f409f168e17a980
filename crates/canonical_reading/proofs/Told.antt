-- The pieces of a file tell its symbols but for places.
use Rattle.std.proofs.Common.{ℕ, List, [], ◌∷◌, map, Option, Some, None}
use Rattle.std.specs.Prelude.{pos, suc, Bool, true, false}
use Rattle.std.specs.List.{AllByRecursion, flat_map}
use Rattle.utopist_lexer.specs.declared.mark.Mark.TheVariants as marks
use Rattle.utopist_lexer.specs.declared.word.Word.TheVariants as words
use Rattle.utopist_syntax.specs.Named.{Named}
use Rattle.token_forms.specs.Symbols.{Symbol, mark}
use Rattle.utopist_parser.specs.Written as written
use Rattle.utopist_parser.specs.Written.{WrittenPath, Expression}
use Rattle.utopist_parser.specs.WrittenFile.{WrittenBind, WrittenKind, numeric, component, WrittenPart, input, subtask, WrittenItem, var, eq, rel, WrittenConcept, WrittenNumber, WrittenGiven, WrittenCompute, WrittenFile}
use Rattle.utopist_parser.specs.ExprSymbols.{spell_name, spell_path}
use Rattle.token_forms.specs.Lists.{OneOrMore, all_of, spell_option}
use Rattle.utopist_parser.specs.ExprTree.{see_expr}
use Rattle.utopist_parser.specs.FileSymbols.{spell_names, spell_paths, spell_bind, spell_binds, spell_kind, spell_part, spell_parts, spell_body, spell_item, spell_parents, spell_concept, spell_below, spell_minus, spell_value, spell_given, spell_givens, spell_compute, spell_file}
use Rattle.utopist_parser.specs.FileSeen.{all_if_any, see_option, see_path, see_bind, see_kind, see_binds, see_part, see_item, see_concept, see_given, see_compute, see_file}
use Rattle.canonical_reading.proofs.PrintableParts.{SomeAndAll, PrintableName, PrintableNames, PrintablePath, PrintableKind, PrintableBind, PrintablePart, PrintableBody, PrintableItem, PrintableConcept, PrintableGiven, PrintableCompute, PrintableFile}
use Rattle.canonical_reading.proofs.ToldExpr.{Told, before, nothing, a_word, a_mark, a_number, a_name, the_end, many, parted, name_told, path_told, expr_told, chain_told}

-- ---- what is seen of several forms

-- what holds of what is seen of each
each_seen : {X V : Type 0} (see : X → V) (P : V → Type 0) (xs : List X) → AllByRecursion P (map see xs) → AllByRecursion (λ x. P (see x)) xs
each_seen see P [] a = tt
each_seen see P (x ∷ xs) a = (a.0, each_seen see P xs a.1)

-- forms that stand one behind another, of which what is seen can be printed
many_seen : {X V : Type 0} (spell : X → List Symbol) (see : X → V) (P : V → Type 0) → ((x : X) → P (see x) → Told (spell x))
    → (xs : List X) → AllByRecursion P (map see xs) → Told (flat_map spell xs)
many_seen spell see P h xs a = many spell (λ x. P (see x)) h xs (each_seen see P xs a)

-- one or more of them
one_or_more_seen : {X V : Type 0} (see : X → V) (P : V → Type 0) (xs : OneOrMore X) → SomeAndAll P (map see (all_of xs)) → SomeAndAll (λ x. P (see x)) (all_of xs)
one_or_more_seen see P xs a = (a.0, each_seen see P xs.more a.1)

-- parts that may be left out
if_any : {X : Type 0} (spell : OneOrMore X → List Symbol) (P : X → Type 0) → ((xs : OneOrMore X) → SomeAndAll P (all_of xs) → Told (spell xs))
    → (o : Option (OneOrMore X)) → AllByRecursion P (all_if_any o) → Told (spell_option spell o)
if_any spell P h None a = nothing
if_any spell P h (Some xs) a = h xs a

-- parts that may be left out, of which what is seen can be printed
if_any_seen : {X V : Type 0} (spell : OneOrMore X → List Symbol) (see : X → V) (P : V → Type 0)
    → ((xs : OneOrMore X) → SomeAndAll (λ x. P (see x)) (all_of xs) → Told (spell xs)) → (o : Option (OneOrMore X)) → AllByRecursion P (map see (all_if_any o)) → Told (spell_option spell o)
if_any_seen spell see P h None a = nothing
if_any_seen spell see P h (Some xs) a = h xs (one_or_more_seen see P xs a)

-- ---- items

-- a semicolon
semicolon : Told (mark marks.Semicolon ∷ [])
semicolon = a_mark marks.Semicolon nothing

-- names joined by commas
names_told : (ns : OneOrMore Named) → PrintableNames (all_of ns) → Told (spell_names ns)
names_told ns h = parted marks.Comma spell_name PrintableName name_told ns h

-- paths joined by commas
paths_told : (ps : OneOrMore WrittenPath) → SomeAndAll PrintablePath (map see_path (all_of ps)) → Told (spell_paths ps)
paths_told ps h = parted marks.Comma spell_path (λ p. PrintablePath (see_path p)) path_told ps (one_or_more_seen see_path PrintablePath ps h)

-- a binding
bind_told : (b : WrittenBind) → PrintableBind (see_bind b) → Told (spell_bind b)
bind_told b h = before (path_told b.left h.0) (a_mark marks.Equal (path_told b.right h.1))

-- bindings in parentheses
binds_told : (bs : OneOrMore WrittenBind) → SomeAndAll (λ b. PrintableBind (see_bind b)) (all_of bs) → Told (spell_binds bs)
binds_told bs h = a_mark marks.OpenRound (before (parted marks.Comma spell_bind (λ b. PrintableBind (see_bind b)) bind_told bs h) (a_mark marks.CloseRound nothing))

-- a kind and its bindings
kind_told : (k : WrittenKind) → PrintableKind (see_kind k) → AllByRecursion PrintableBind (see_binds k) → Told (spell_kind k)
kind_told numeric h a = a_word words.Numeric nothing
kind_told (component n binds) h a = a_name n h (if_any_seen spell_binds see_bind PrintableBind binds_told binds a)

-- a part
part_told : (p : WrittenPart) → PrintablePart (see_part p) → Told (spell_part p)
part_told (input p) h = path_told p h
part_told (subtask inputs outputs) h =
    a_mark marks.OpenSquare (before (paths_told inputs h.0) (a_mark marks.Arrow (before (paths_told outputs h.1) (a_mark marks.CloseSquare nothing))))

-- parts joined by commas
parts_told : (ps : OneOrMore WrittenPart) → SomeAndAll (λ p. PrintablePart (see_part p)) (all_of ps) → Told (spell_parts ps)
parts_told ps h = parted marks.Comma spell_part (λ p. PrintablePart (see_part p)) part_told ps h

-- a body, where there is one
body_told : (o : Option Expression) → PrintableBody (see_option see_expr o) → Told (spell_option spell_body o)
body_told None h = nothing
body_told (Some e) h = a_mark marks.OpenCurly (before (expr_told e h) (a_mark marks.CloseCurly nothing))

-- an item
item_told : (i : WrittenItem) → PrintableItem (see_item i) → Told (spell_item i)
item_told (var ns kind) h = a_word words.Var (before (names_told ns h.0) (a_mark marks.Colon (before (kind_told kind h.1 h.2) semicolon)))
item_told (eq left right) h = a_word words.Eq (before (chain_told left h.0) (a_mark marks.Equal (before (chain_told right h.1) semicolon)))
item_told (rel n parts output body) h =
    a_word words.Rel (a_name n h.0 (a_mark marks.Colon (before (if_any_seen spell_parts see_part PrintablePart parts_told parts h.1) (a_mark marks.Arrow (before (path_told output h.2) (before (body_told body h.3) semicolon))))))

-- ---- concepts

-- parents
parents_told : (ns : OneOrMore Named) → PrintableNames (all_of ns) → Told (spell_parents ns)
parents_told ns h = a_word words.Is (names_told ns h)

-- a concept
concept_told : (c : WrittenConcept) → PrintableConcept (see_concept c) → Told (spell_concept c)
concept_told c h =
    a_word words.Concept (a_name c.name h.name (before (if_any spell_parents PrintableName parents_told c.parents h.parents) (a_mark marks.Colon (a_mark marks.OpenRound (before (many_seen spell_item see_item PrintableItem item_told c.items h.items) (a_mark marks.CloseRound semicolon))))))

-- ---- compute statements

-- a minus that may be left out
minus_told : (b : Bool) → Told (spell_minus b)
minus_told true = a_mark marks.Minus nothing
minus_told false = nothing

-- a denominator that may be left out
below_told : (o : Option ℕ) → Told (spell_option spell_below o)
below_told None = nothing
below_told (Some d) = a_mark marks.Slash (a_number (pos (suc d)) nothing)

-- a number that may be left out
value_told : (o : Option WrittenNumber) → Told (spell_option spell_value o)
value_told None = nothing
value_told (Some x) = a_mark marks.Equal (before (minus_told x.negative) (a_number (pos x.above) (below_told x.below)))

-- a given
given_told : (g : WrittenGiven) → PrintableGiven (see_given g) → Told (spell_given g)
given_told g h = before (path_told g.path h.0) (value_told g.value)

-- what is given
givens_told : (gs : OneOrMore WrittenGiven) → SomeAndAll (λ g. PrintableGiven (see_given g)) (all_of gs) → Told (spell_givens gs)
givens_told gs h = a_word words.Given (before (parted marks.Comma spell_given (λ g. PrintableGiven (see_given g)) given_told gs h) semicolon)

-- a compute statement
compute_told : (c : WrittenCompute) → PrintableCompute (see_compute c) → Told (spell_compute c)
compute_told c h =
    a_word words.Compute (a_name c.name h.name (a_mark marks.Colon (a_mark marks.OpenRound (before (if_any_seen spell_givens see_given PrintableGiven givens_told c.givens h.givens) (a_word words.Find (before (paths_told c.wants h.wants) (a_mark marks.CloseRound semicolon)))))))

-- ---- files

-- the pieces of a file tell its symbols, where its tree can be printed
pub file_told : (w : WrittenFile) → PrintableFile (see_file w) → Told (spell_file w)
file_told w h =
    before (many_seen spell_concept see_concept PrintableConcept concept_told w.concepts h.concepts)
    (before (many_seen spell_compute see_compute PrintableCompute compute_told w.computes h.computes) the_end)
