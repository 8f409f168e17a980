-- The rules of items.
use Rattle.std.proofs.Common.{◌≡◌, ℕ, suc, ◌≤◌, true, false, List, [], ◌++◌, map, Option, Some, None, refl, arith, inl, inr}
use Rattle.std.specs.Prelude.{◌⊎◌}
use Rattle.std.specs.List.{flat_map}
use Rattle.utopist_lexer.specs.declared.word.Word.TheVariants as words
use Rattle.utopist_lexer.specs.declared.mark.Mark.TheVariants as marks
use Rattle.utopist_lexer.specs.declared.token.Kind.TheVariants as kinds
use Rattle.utopist_syntax.specs.declared.item.VarKind.{VarKind}
use Rattle.utopist_syntax.specs.declared.item.VarKind.TheVariants as var_kinds
use Rattle.utopist_syntax.specs.declared.item.Bind.{Bind}
use Rattle.utopist_syntax.specs.declared.item.Part.{Part}
use Rattle.utopist_syntax.specs.declared.item.Part.TheVariants as parts
use Rattle.utopist_syntax.specs.Named.{Named}
use Rattle.utopist_syntax.specs.ExprTree.{ExprTree}
use Rattle.utopist_syntax.specs.FileTree as tree
use Rattle.utopist_syntax.specs.FileTree.{ItemTree}
use Rattle.utopist_parser.specs.declared.breadth.Breadth.TheVariants as breadth
use Rattle.token_forms.specs.Symbols.{Symbol, mark}
use Rattle.token_forms.specs.steps.Steps.{next, meets}
use Rattle.token_forms.specs.steps.Single.{is_word, is_mark}
use Rattle.token_forms.specs.Lists.{OneOrMore}
use Rattle.utopist_parser.specs.Written.{WrittenPath, Expression, Chain}
use Rattle.utopist_parser.specs.WrittenFile.{WrittenBind, WrittenKind, numeric, component, WrittenPart, input, subtask, WrittenItem, var, eq, rel}
use Rattle.token_forms.specs.Lists.{behind}
use Rattle.token_forms.specs.Lists.{all_of}
use Rattle.utopist_parser.specs.ExprTree.{see_expr, see_chain}
use Rattle.utopist_parser.specs.FileSymbols.{spell_bind, spell_binds, spell_kind, spell_part, spell_parts, spell_body, spell_item}
use Rattle.utopist_parser.specs.FileSeen.{see_path, see_bind, see_kind, see_binds, see_part, see_item}
use Rattle.utopist_parser.specs.FileNesting.{IsBody, IsItem}
use Rattle.utopist_parser.specs.steps.ReadingFile.{bind_at, some_binds_at, binds_at, numeric_at, component_at, kind_at, var_at, eq_at, input_at, subtask_at, part_at, some_parts_at, begins_part, parts_at, some_body_at, body_at, rel_at, item_at, begins_item}
use Rattle.token_forms.proofs.StepLaws.{Form, Aspect}
use Rattle.token_forms.proofs.Sequence.{both}
use Rattle.token_forms.proofs.Recast.{recast, reform_keeps}
use Rattle.token_forms.proofs.Choice.{either, see_either}
use Rattle.token_forms.proofs.Singles.{after, name_form}
use Rattle.token_forms.proofs.Rules.{Rule, fitting_by, name_rule, after_word, after_mark, done, done_rule, stop, stop_rule, then_rule, map_rule, recast_rule, separated_form, separated_stops, separated_rule, either_rule, see_optional, optional, optional_rule}
use Rattle.utopist_parser.proofs.PathRules.{names_form, names_rule, path_form, path_rule, path_stops, paths_form, paths_rule, paths_stop}
use Rattle.token_forms.proofs.Meeting.{meets_other}
use Rattle.utopist_parser.proofs.Free.{Free, free_after, free_stop, free_both, free_either, free_separated, free_optional, free_recast}
use Rattle.utopist_parser.proofs.ExprFacts.{closes_chain, closes_expr}
use Rattle.utopist_parser.proofs.Lows.{chain_form, expr_form}
use Rattle.utopist_parser.proofs.ExprRules.{level_rules}

pub free_name : Free name_form
free_name = record { fits = λ n M. tt }

free_done : Free done
free_done = record { fits = λ u M. tt }

pub free_names : Free names_form
free_names = free_separated marks.Comma free_name

pub free_path : Free path_form
free_path = free_separated marks.Dot free_name

pub free_paths : Free paths_form
free_paths = free_separated marks.Comma free_path

-- ---- bindings

-- path "=" path
abbrev bind_pair : Form (WrittenPath × WrittenPath)
bind_pair = both path_form (after (kinds.Mark marks.Equal) path_form)

abbrev bind_form : Form WrittenBind
bind_form = recast bind_pair spell_bind (λ b. (b.left, b.right))

bind_rule : {m : Aspect} {room : ℕ} → Rule m room bind_form see_bind bind_at
unfolding bind_at
bind_rule =
    recast_rule {g = bind_pair} {see = λ p. record { left = see_path p.0; right = see_path p.1 }} spell_bind see_bind (λ p. record { left = p.0; right = p.1 }) (λ b. (b.left, b.right)) (λ p. refl) (λ b. refl) (λ b. refl)
    (then_rule (λ l r. record { left = see_path l; right = see_path r }) _ path_rule (λ l. after_mark marks.Equal (map_rule (λ r. record { left = see_path l; right = r }) path_rule)) (λ l r rest s. path_stops l _ refl))

free_bind : Free bind_form
free_bind = free_recast spell_bind (λ b. (b.left, b.right)) (free_both free_path (free_after (kinds.Mark marks.Equal) free_path))

-- "(" bind {"," bind} ")"
abbrev some_binds_pair : Form (OneOrMore WrittenBind × Unit {0})
some_binds_pair = after (kinds.Mark marks.OpenRound) (both (separated_form marks.Comma bind_form) (stop marks.CloseRound))

abbrev some_binds_form : Form (OneOrMore WrittenBind)
some_binds_form = recast some_binds_pair spell_binds (λ bs. (bs, tt))

abbrev see_some_binds : OneOrMore WrittenBind → List Bind
see_some_binds bs = map see_bind (all_of bs)

bind_stops : (b : WrittenBind) (o : Option Symbol) → meets (is_mark marks.Dot) o ≡ false → bind_form.Stops b o
bind_stops b o e = path_stops b.right o e

some_binds_rule : {m : Aspect} {room : ℕ} → Rule m room some_binds_form see_some_binds some_binds_at
unfolding some_binds_at
some_binds_rule =
    recast_rule {g = some_binds_pair} {see = λ p. see_some_binds p.0} spell_binds see_some_binds (λ p. p.0) (λ bs. (bs, tt)) (λ p. refl) (λ bs. refl) (λ bs. refl)
    (after_mark marks.OpenRound
    (then_rule (λ bs u. see_some_binds bs) _ (separated_rule marks.Comma (λ b o s. bind_stops b o (meets_other (kinds.Mark marks.Comma) (kinds.Mark marks.Dot) o refl s)) bind_rule) (λ bs. stop_rule marks.CloseRound (see_some_binds bs))
    (λ bs u rest s. separated_stops marks.Comma bind_form _ (λ b. bind_stops b _ refl) refl bs)))

free_some_binds : Free some_binds_form
free_some_binds = free_recast spell_binds (λ bs. (bs, tt)) (free_after (kinds.Mark marks.OpenRound) (free_both (free_separated marks.Comma free_bind) (free_stop marks.CloseRound)))

-- ["(" bind {"," bind} ")"]
abbrev binds_form : Form (Option (OneOrMore WrittenBind))
binds_form = optional some_binds_form (is_mark marks.OpenRound)

binds_rule : {m : Aspect} {room : ℕ} → Rule m room binds_form (see_optional see_some_binds []) binds_at
unfolding binds_at
binds_rule = optional_rule (is_mark marks.OpenRound) [] (λ bs rest. refl) some_binds_rule

binds_stop : (o : Option (OneOrMore WrittenBind)) (t : Option Symbol) → meets (is_mark marks.OpenRound) t ≡ false → binds_form.Stops o t
binds_stop None t e = e
binds_stop (Some bs) t e = tt

-- ---- variables

abbrev Component : Type 0
Component = Named × Option (OneOrMore WrittenBind)

abbrev see_component : Component → VarKind × List Bind
see_component p = (var_kinds.Of p.0, see_optional see_some_binds [] p.1)

-- "numeric" | Name ["(" bind {"," bind} ")"]
abbrev kinds_form : Form (Unit {0} ⊎ Component)
kinds_form = either (after (kinds.Word words.Numeric) done) (both name_form binds_form)

numeric_rule : {m : Aspect} {room : ℕ} → Rule m room (after (kinds.Word words.Numeric) done) (λ u. (var_kinds.Numeric, [])) numeric_at
unfolding numeric_at
numeric_rule = after_word words.Numeric (done_rule (var_kinds.Numeric, []))

component_rule : {m : Aspect} {room : ℕ} → Rule m room (both name_form binds_form) see_component component_at
unfolding component_at
component_rule = then_rule (λ n o. see_component (n, o)) _ name_rule (λ n. map_rule (λ bs. (var_kinds.Of n, bs)) binds_rule) (λ n o rest s. tt)

abbrev from_kind : WrittenKind → Unit {0} ⊎ Component
from_kind numeric = inl tt
from_kind (component n binds) = inr (n, binds)

abbrev to_kind : Unit {0} ⊎ Component → WrittenKind
to_kind (inl u) = numeric
to_kind (inr p) = component p.0 p.1

kind_back : (z : Unit {0} ⊎ Component) → from_kind (to_kind z) ≡ z
kind_back (inl u) = refl
kind_back (inr p) = refl

kind_spelled : (k : WrittenKind) → kinds_form.spell (from_kind k) ≡ spell_kind k
kind_spelled numeric = refl
kind_spelled (component n None) = refl
kind_spelled (component n (Some bs)) = refl

abbrev seen_kind : WrittenKind → VarKind × List Bind
seen_kind k = (see_kind k, see_binds k)

kind_seen : (k : WrittenKind) → see_either {X = Unit {0}} (λ u. (var_kinds.Numeric, [])) see_component (from_kind k) ≡ seen_kind k
kind_seen numeric = refl
kind_seen (component n None) = refl
kind_seen (component n (Some bs)) = refl

abbrev kind_form : Form WrittenKind
kind_form = recast kinds_form spell_kind from_kind

kind_rule : {m : Aspect} {room : ℕ} → Rule m room kind_form seen_kind kind_at
unfolding kind_at
kind_rule =
    recast_rule {g = kinds_form} {see = see_either (λ u. (var_kinds.Numeric, [])) see_component} spell_kind seen_kind to_kind from_kind kind_back kind_spelled kind_seen
    (either_rule (is_word words.Numeric) (λ u rest. refl) (λ p rest s. refl) numeric_rule component_rule)

kind_stops : (k : WrittenKind) (t : Option Symbol) → meets (is_mark marks.OpenRound) t ≡ false → kind_form.Stops k t
kind_stops numeric t e = tt
kind_stops (component n binds) t e = binds_stop binds t e

free_kind : Free kind_form
free_kind =
    free_recast spell_kind from_kind (free_either (free_after (kinds.Word words.Numeric) free_done) (free_both free_name (free_optional (is_mark marks.OpenRound) free_some_binds)))

-- "var" Name {"," Name} ":" kind ";"
abbrev Var : Type 0
Var = OneOrMore Named × (WrittenKind × Unit {0})

abbrev see_var : Var → ItemTree
see_var p = tree.var (all_of p.0) (see_kind p.1.0) (see_binds p.1.0)

abbrev var_form : Form Var
var_form = after (kinds.Word words.Var) (both names_form (after (kinds.Mark marks.Colon) (both kind_form (stop marks.Semicolon))))

pub names_stop : (ns : OneOrMore Named) (t : Option Symbol) → meets (is_mark marks.Comma) t ≡ false → names_form.Stops ns t
names_stop ns t e = separated_stops marks.Comma name_form t (λ n. tt) e ns

var_rule : {m : Aspect} {room : ℕ} → Rule m room var_form see_var var_at
unfolding var_at
var_rule =
    after_word words.Var
    (then_rule (λ ns p. see_var (ns, p)) _ names_rule
    (λ ns. after_mark marks.Colon (then_rule (λ k u. see_var (ns, (k, u))) _ kind_rule (λ k. stop_rule marks.Semicolon (see_var (ns, (k, tt)))) (λ k u rest s. kind_stops k _ refl)))
    (λ ns p rest s. names_stop ns _ refl))

free_var : Free var_form
free_var = free_after (kinds.Word words.Var) (free_both free_names (free_after (kinds.Mark marks.Colon) (free_both free_kind (free_stop marks.Semicolon))))

-- ---- equations

abbrev Eq : Type 0
Eq = Chain × (Chain × Unit {0})

abbrev see_eq : Eq → ItemTree
see_eq p = tree.eq (see_chain p.0) (see_chain p.1.0)

abbrev side_form : Form Chain
side_form = chain_form breadth.Arithmetic

-- "eq" arith "=" arith ";"
abbrev eq_form : Form Eq
eq_form = after (kinds.Word words.Eq) (both side_form (after (kinds.Mark marks.Equal) (both side_form (stop marks.Semicolon))))

eq_rule : {m : Aspect} {room : ℕ} → Rule m room eq_form see_eq eq_at
unfolding eq_at
eq_rule {m} {room} =
    let side = (level_rules m room breadth.Arithmetic).chain in
    after_word words.Eq
    (then_rule (λ l p. see_eq (l, p)) _ side
    (λ l. after_mark marks.Equal (then_rule (λ r u. see_eq (l, (r, u))) _ side (λ r. stop_rule marks.Semicolon (see_eq (l, (r, tt)))) (λ r u rest s. closes_chain r _ (refl, refl, refl))))
    (λ l p rest s. closes_chain l _ (refl, refl, refl)))

-- ---- relations

-- "[" path {"," path} "->" path {"," path} "]"
abbrev Subtask : Type 0
Subtask = OneOrMore WrittenPath × (OneOrMore WrittenPath × Unit {0})

abbrev see_subtask : Subtask → Part
see_subtask p = parts.Subtask (map see_path (all_of p.0)) (map see_path (all_of p.1.0))

abbrev subtask_form : Form Subtask
subtask_form = after (kinds.Mark marks.OpenSquare) (both paths_form (after (kinds.Mark marks.Arrow) (both paths_form (stop marks.CloseSquare))))

subtask_rule : {m : Aspect} {room : ℕ} → Rule m room subtask_form see_subtask subtask_at
unfolding subtask_at
subtask_rule =
    after_mark marks.OpenSquare
    (then_rule (λ is p. see_subtask (is, p)) _ paths_rule
    (λ is. after_mark marks.Arrow (then_rule (λ o u. see_subtask (is, (o, u))) _ paths_rule (λ o. stop_rule marks.CloseSquare (see_subtask (is, (o, tt)))) (λ o u rest s. paths_stop o _ refl refl)))
    (λ is p rest s. paths_stop is _ refl refl))

free_subtask : Free subtask_form
free_subtask =
    free_after (kinds.Mark marks.OpenSquare) (free_both free_paths (free_after (kinds.Mark marks.Arrow) (free_both free_paths (free_stop marks.CloseSquare))))

abbrev see_input : WrittenPath → Part
see_input p = parts.Input (see_path p)

input_rule : {m : Aspect} {room : ℕ} → Rule m room path_form see_input input_at
unfolding input_at
input_rule = map_rule (λ p. parts.Input p) path_rule

abbrev from_part : WrittenPart → Subtask ⊎ WrittenPath
from_part (input p) = inr p
from_part (subtask is o) = inl (is, (o, tt))

abbrev to_part : Subtask ⊎ WrittenPath → WrittenPart
to_part (inl p) = subtask p.0 p.1.0
to_part (inr p) = input p

part_back : (z : Subtask ⊎ WrittenPath) → from_part (to_part z) ≡ z
part_back (inl p) = refl
part_back (inr p) = refl

part_spelled : (p : WrittenPart) → (either subtask_form path_form).spell (from_part p) ≡ spell_part p
part_spelled (input p) = refl
part_spelled (subtask is o) = refl

part_seen : (p : WrittenPart) → see_either see_subtask see_input (from_part p) ≡ see_part p
part_seen (input p) = refl
part_seen (subtask is o) = refl

abbrev part_form : Form WrittenPart
part_form = recast (either subtask_form path_form) spell_part from_part

part_rule : {m : Aspect} {room : ℕ} → Rule m room part_form see_part part_at
unfolding part_at
part_rule =
    recast_rule {g = either subtask_form path_form} {see = see_either see_subtask see_input} spell_part see_part to_part from_part part_back part_spelled part_seen
    (either_rule (is_mark marks.OpenSquare) (λ p rest. refl) (λ p rest s. refl) subtask_rule input_rule)

part_stops : (p : WrittenPart) (t : Option Symbol) → meets (is_mark marks.Dot) t ≡ false → part_form.Stops p t
part_stops (input p) t e = path_stops p t e
part_stops (subtask is o) t e = tt

free_part : Free part_form
free_part = free_recast spell_part from_part (free_either free_subtask free_path)

-- [part {"," part}]
abbrev some_parts_form : Form (OneOrMore WrittenPart)
some_parts_form = separated_form marks.Comma part_form

abbrev see_some_parts : OneOrMore WrittenPart → List Part
see_some_parts ps = map see_part (all_of ps)

some_parts_rule : {m : Aspect} {room : ℕ} → Rule m room some_parts_form see_some_parts some_parts_at
unfolding some_parts_at
some_parts_rule = separated_rule marks.Comma (λ p o s. part_stops p o (meets_other (kinds.Mark marks.Comma) (kinds.Mark marks.Dot) o refl s)) part_rule

parts_begin : (ps : OneOrMore WrittenPart) (rest : List Symbol) → meets begins_part (next (spell_parts ps ++ rest)) ≡ true
parts_begin ps rest = first ps.first (flat_map (behind marks.Comma spell_part) ps.more) where
  first : (p : WrittenPart) (more : List Symbol) → meets begins_part (next ((spell_part p ++ more) ++ rest)) ≡ true
  first (input p) more = refl
  first (subtask is o) more = refl

abbrev parts_form : Form (Option (OneOrMore WrittenPart))
parts_form = optional some_parts_form begins_part

parts_rule : {m : Aspect} {room : ℕ} → Rule m room parts_form (see_optional see_some_parts []) parts_at
unfolding parts_at
parts_rule = optional_rule begins_part [] parts_begin some_parts_rule

-- an arrow ends the parts
parts_stop : (o : Option (OneOrMore WrittenPart)) → parts_form.Stops o (Some (mark marks.Arrow))
parts_stop None = refl
parts_stop (Some ps) = separated_stops marks.Comma part_form _ (λ p. part_stops p _ refl) refl ps

-- "{" expr "}"
abbrev some_body_pair : Form (Expression × Unit {0})
some_body_pair = after (kinds.Mark marks.OpenCurly) (both (expr_form breadth.All) (stop marks.CloseCurly))

abbrev some_body_form : Form Expression
some_body_form = recast some_body_pair spell_body (λ e. (e, tt))

some_body_rule : {m : Aspect} {room : ℕ} → Rule m room some_body_form (λ e. Some (see_expr e)) some_body_at
unfolding some_body_at
some_body_rule {m} {room} =
    recast_rule {g = some_body_pair} {see = λ p. Some (see_expr p.0)} spell_body (λ e. Some (see_expr e)) (λ p. p.0) (λ e. (e, tt)) (λ p. refl) (λ e. refl) (λ e. refl)
    (after_mark marks.OpenCurly (then_rule (λ e u. Some (see_expr e)) _ (level_rules m room breadth.All).expr (λ e. stop_rule marks.CloseCurly (Some (see_expr e))) (λ e u rest s. closes_expr e _ (refl, refl, refl))))

abbrev body_form : Form (Option Expression)
body_form = optional some_body_form (is_mark marks.OpenCurly)

abbrev see_body : Option Expression → Option ExprTree
see_body = see_optional (λ e. Some (see_expr e)) None

body_rule : {m : Aspect} {room : ℕ} → Rule m room body_form see_body body_at
unfolding body_at
body_rule = optional_rule (is_mark marks.OpenCurly) None (λ e rest. refl) some_body_rule

-- "rel" Name ":" [part {"," part}] "->" path ["{" expr "}"] ";"
abbrev Rel : Type 0
Rel = Named × (Option (OneOrMore WrittenPart) × (WrittenPath × (Option Expression × Unit {0})))

abbrev see_rel : Rel → ItemTree
see_rel p = tree.rel p.0 (see_optional see_some_parts [] p.1.0) (see_path p.1.1.0) (see_body p.1.1.1.0)

abbrev rel_form : Form Rel
rel_form =
    after (kinds.Word words.Rel)
    (both name_form (after (kinds.Mark marks.Colon) (both parts_form (after (kinds.Mark marks.Arrow) (both path_form (both body_form (stop marks.Semicolon)))))))

-- a semicolon ends the body
body_stops : (o : Option Expression) → body_form.Stops o (Some (mark marks.Semicolon))
body_stops None = refl
body_stops (Some e) = tt

-- a body or a semicolon ends the output
output_stops : (p : WrittenPath) (o : Option Expression) (rest : List Symbol) → path_form.Stops p (next ((both body_form (stop marks.Semicolon)).spell (o, tt) ++ rest))
output_stops p None rest = path_stops p _ refl
output_stops p (Some e) rest = path_stops p _ refl

rel_rule : {m : Aspect} {room : ℕ} → Rule m room rel_form see_rel rel_at
unfolding rel_at
rel_rule =
    after_word words.Rel
    (then_rule (λ n p. see_rel (n, p)) _ name_rule
    (λ n. after_mark marks.Colon
    (then_rule (λ ps p. see_rel (n, (ps, p))) _ parts_rule
    (λ ps. after_mark marks.Arrow
    (then_rule (λ o p. see_rel (n, (ps, (o, p)))) _ path_rule
    (λ o. then_rule (λ b u. see_rel (n, (ps, (o, (b, u))))) _ body_rule (λ b. stop_rule marks.Semicolon (see_rel (n, (ps, (o, (b, tt)))))) (λ b u rest s. body_stops b))
    (λ o p rest s. output_stops o p.0 rest)))
    (λ ps p rest s. parts_stop ps)))
    (λ n p rest s. tt))

-- ---- items

abbrev Items : Type 0
Items = Var ⊎ (Eq ⊎ Rel)

abbrev from_item : WrittenItem → Items
from_item (var ns kind) = inl (ns, (kind, tt))
from_item (eq l r) = inr (inl (l, (r, tt)))
from_item (rel n ps o b) = inr (inr (n, (ps, (o, (b, tt)))))

abbrev to_item : Items → WrittenItem
to_item (inl p) = var p.0 p.1.0
to_item (inr (inl p)) = eq p.0 p.1.0
to_item (inr (inr p)) = rel p.0 p.1.0 p.1.1.0 p.1.1.1.0

item_back : (z : Items) → from_item (to_item z) ≡ z
item_back (inl p) = refl
item_back (inr (inl p)) = refl
item_back (inr (inr p)) = refl

abbrev items_form : Form Items
items_form = either var_form (either eq_form rel_form)

item_spelled : (i : WrittenItem) → items_form.spell (from_item i) ≡ spell_item i
item_spelled (var ns kind) = refl
item_spelled (eq l r) = refl
item_spelled (rel n None o None) = refl
item_spelled (rel n None o (Some e)) = refl
item_spelled (rel n (Some ps) o None) = refl
item_spelled (rel n (Some ps) o (Some e)) = refl

abbrev see_items : Items → ItemTree
see_items = see_either see_var (see_either see_eq see_rel)

item_seen : (i : WrittenItem) → see_items (from_item i) ≡ see_item i
item_seen (var ns kind) = refl
item_seen (eq l r) = refl
item_seen (rel n None o None) = refl
item_seen (rel n None o (Some e)) = refl
item_seen (rel n (Some ps) o None) = refl
item_seen (rel n (Some ps) o (Some e)) = refl

body_grows : (o : Option Expression) (m M : ℕ) → m ≤ M → IsBody m o → IsBody M o
body_grows None m M h i = tt
body_grows (Some e) m M h i = omega (arith, h, i)

pub item_grows : (i : WrittenItem) (m M : ℕ) → m ≤ M → IsItem m i → IsItem M i
item_grows (var ns kind) m M h i = tt
item_grows (eq l r) m M h i = let a = i.0.0 in let b = i.1.0 in ((omega (arith, h, a), i.0.1), (omega (arith, h, b), i.1.1))
item_grows (rel n ps o b) m M h i = body_grows b m M h i

pub item_grows_in : (i : WrittenItem) (m M : ℕ) → m ≤ M → IsItem (suc m) i → IsItem (suc M) i
item_grows_in i m M h j = item_grows i (suc m) (suc M) (omega (arith, h)) j

to_body : (o : Option Expression) (M : ℕ) → IsBody (suc M) o → body_form.Fits o M
to_body None M h = tt
to_body (Some e) M h = (tt, ((h, tt), (tt, tt)))

from_body : (o : Option Expression) (M : ℕ) → body_form.Fits o M → IsBody (suc M) o
from_body None M h = tt
from_body (Some e) M h = h.1.0.0

to_fits : (i : WrittenItem) (M : ℕ) → IsItem (suc M) i → items_form.Fits (from_item i) M
to_fits (var ns kind) M h = free_var.fits (ns, (kind, tt)) M
to_fits (eq l r) M h = (tt, (h.0, (tt, (h.1, (tt, tt)))))
to_fits (rel n ps o b) M h = (tt, (tt, (tt, ((free_optional begins_part (free_separated marks.Comma free_part)).fits ps M, (tt, (free_path.fits o M, (to_body b M h, (tt, tt))))))))

from_fits : (i : WrittenItem) (M : ℕ) → items_form.Fits (from_item i) M → IsItem (suc M) i
from_fits (var ns kind) M h = tt
from_fits (eq l r) M h = (h.1.0, h.1.1.1.0)
from_fits (rel n ps o b) M h = from_body b M h.1.1.1.1.1.1.0

-- an item ends with a semicolon, so anything may stand behind it
item_stops : (i : WrittenItem) (o : Option Symbol) → items_form.Stops (from_item i) o
item_stops (var ns kind) o = tt
item_stops (eq l r) o = tt
item_stops (rel n ps p b) o = tt

abbrev pub item_form : Form WrittenItem
item_form = record { spell = spell_item; Fits = λ i M. IsItem (suc M) i; grows = item_grows_in; Stops = λ i o. Unit {0}; Enters = λ o. Unit {0} }

pub item_rule : {m : Aspect} {room : ℕ} → Rule m room item_form see_item item_at
unfolding item_at
item_rule {m} {room} =
    let r = recast_rule {g = items_form} {see = see_items} spell_item see_item to_item from_item item_back item_spelled item_seen
    (either_rule (is_word words.Var) (λ p rest. refl) not_var var_rule (either_rule (is_word words.Eq) (λ p rest. refl) (λ p rest s. refl) eq_rule rel_rule)) in
    record {
      keeps = reform_keeps (recast items_form spell_item from_item) see_item (λ i M. IsItem (suc M) i) item_grows_in (λ i o. Unit {0}) to_fits from_fits (λ i o s. item_stops i o) (λ i o s. tt) r.enters m item_at room r.keeps;
      some = r.some;
      fits = fitting_by m (recast items_form spell_item from_item) item_form r.some r.some room (from_fits r.some room) r.fits;
      enters = λ o. tt;
    } where
      not_var : (z : Eq ⊎ Rel) (rest : List Symbol) → (either eq_form rel_form).Stops z (next rest) → meets (is_word words.Var) (next ((either eq_form rel_form).spell z ++ rest)) ≡ false
      not_var (inl p) rest s = refl
      not_var (inr p) rest s = refl

pub item_begins : (i : WrittenItem) (more : List Symbol) → meets begins_item (next (spell_item i ++ more)) ≡ true
item_begins (var ns kind) more = refl
item_begins (eq l r) more = refl
item_begins (rel n ps o b) more = refl
