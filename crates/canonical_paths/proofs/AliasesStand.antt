-- What a binding binds, where both of its paths have one type.
use Rattle.std.proofs.Common.{◌≡◌, ℕ, suc, ◌+◌, ◌<◌, List, Option, Some, None, IfSome, length, get_or, sym, ap, ◌∙◌, subst, arith}
use Rattle.std.specs.Prelude.{slice_get}
use Rattle.std.proofs.lemmas.Option.{slice_get-get_or, same_Some}
use Rattle.utopist_syntax.specs.declared.item.Bind.{Bind}
use Rattle.canonical_paths.specs.declared.slot.Slot.{Slot}
use Rattle.canonical_paths.specs.declared.tables.Alias.{Alias}
use Rattle.canonical_paths.specs.PathNames.{PathNames, names_in}
use Rattle.canonical_paths.specs.Blocks.{IsBlock}
use Rattle.canonical_paths.specs.LaidOut.{LaidOut}
use Rattle.canonical_paths.specs.steps.Layouts.{IsLayout, AreLayouts, inner_paths}
use Rattle.canonical_paths.specs.steps.PathLists.{PathLists, HaveLayouts, IsSlotOf, IsAliasOf}
use Rattle.canonical_paths.proofs.BlocksStand.{blocks_stand, blocks_are_within}

abbrev alias : ℕ → ℕ → ℕ → Alias
alias left size right = record { left = left; size = size; right = right }

-- the paths inside of a component, among these
abbrev pub lists_of : PathLists → List PathNames → PathLists
lists_of w inside = record { concepts = w.concepts; paths = inside }

pub component_laid_out : (w : PathLists) (layouts : List LaidOut) (so_far component : LaidOut) (inside : List PathNames) → HaveLayouts w layouts so_far → IsLayout w.concepts inside component → HaveLayouts (lists_of w inside) layouts component
component_laid_out w layouts so_far component inside h c = record { concepts = h.concepts; so_far = c }

pub alias_stands : (w : PathLists) (inside : List PathNames) (b : Bind) (left right : Slot) (n size : ℕ) → IsSlotOf (lists_of w inside) (names_in b.left) left → IsSlotOf w (names_in b.right) right → left.concept ≡ right.concept → n ≡ length (inner_paths w.concepts left.concept) → size ≡ n + 1 → IsAliasOf w inside b (alias left.at size right.at)
alias_stands w inside b left right n size l r same e f =
    let inner = inner_paths w.concepts left.concept in
    let k : suc (length inner) ≡ size = omega (arith, e, f) in
    let t = subst (λ (c : Option ℕ). IsBlock w.paths right.at (names_in b.right) (inner_paths w.concepts c)) (sym same) r in
    subst (λ (s : ℕ). IsAliasOf w inside b (alias left.at s right.at)) k
    (record {
      stands = blocks_stand w.paths inside inner b left.at right.at l t;
      within = blocks_are_within w.paths inside inner left.at right.at (names_in b.left) (names_in b.right) l t;
    })

-- the layout that an index reads
pub is_there : (layouts : List LaidOut) (c : ℕ) (l : LaidOut) (kind : Option ℕ) → IfSome kind (λ n. n < length layouts) → kind ≡ Some c → l ≡ get_or layouts c l → slice_get layouts c ≡ Some l
is_there layouts c l (Some n) h e is =
    let same : n ≡ c = same_Some n c e in
    slice_get-get_or layouts c l (omega (arith, same, h)) ∙ ap (λ (x : LaidOut). Some x) (sym is)
is_there layouts c l None h e is = absurd (cc)

-- a concept's layout has as many entries as there are paths inside of a component of that type
pub entries_inside : (concepts : List (List PathNames)) (layouts : List LaidOut) (l : LaidOut) (c : ℕ) (kind : Option ℕ) (n : ℕ) → AreLayouts concepts layouts → slice_get layouts c ≡ Some l → kind ≡ Some c → n ≡ length l.table → n ≡ length (inner_paths concepts kind)
entries_inside concepts layouts l c kind n all e f h =
    h ∙ (all c l e).size ∙ ap (λ k. length (inner_paths concepts k)) (sym f)
