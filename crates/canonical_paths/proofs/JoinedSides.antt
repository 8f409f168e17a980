-- Both sides of a binding are found, and have one type.
use Rattle.std.proofs.Common.{◌≡◌, ℕ, zero, suc, ◌+◌, ◌-◌, ◌<◌, ◌≤◌, ◌^◌, Bool, true, false, List, [], ◌∷◌, ◌++◌, Option, Some, None, length, take, drop, get_or, refl, sym, ap, ◌∙◌, subst, ⊎_elim, arith}
use Rattle.std.specs.Prelude.{slice_get, Contains, IsSome, IfSome, option_and_then}
use Rattle.std.proofs.lemmas.Option.{slice_get_within, slice_get-get_or, same_Some}
use Rattle.std.proofs.lemmas.Slice.Eq.{bytes_eq-Decides}
use Rattle.priz_base.proofs.Members.{contains_here, contains_cases, contains_none}
use Rattle.utopist_syntax.specs.Named.{Named}
use Rattle.utopist_syntax.specs.declared.item.Bind.{Bind}
use Rattle.utopist_syntax.specs.declared.item.VarKind.{VarKind}
use Rattle.utopist_syntax.specs.declared.item.VarKind.TheVariants.{Numeric, Of}
use Rattle.utopist_syntax.specs.FileTree.{ItemTree, ConceptTree}
use Rattle.name_sets.specs.Paths.{texts, is_prefix}
use Rattle.name_sets.proofs.Spelt.{member_at}
use Rattle.concept_rules.specs.Declarations.{Variable, variable}
use Rattle.concept_rules.specs.Lineage.{effective_items}
use Rattle.concept_rules.specs.Kinds.{kind_along, kind_of_path, is_same_kind}
use Rattle.canonical_paths.specs.declared.slot.Slot.{Slot}
use Rattle.canonical_paths.specs.declared.tables.Alias.{Alias}
use Rattle.canonical_paths.specs.PathNames.{PathNames, names_in}
use Rattle.canonical_paths.specs.DeclaredPaths.{declared_paths}
use Rattle.canonical_paths.specs.Limits.{max_declared}
use Rattle.canonical_paths.specs.Blocks.{IsBlock}
use Rattle.canonical_paths.specs.steps.Tables.{StandsFor, IsAliasIn}
use Rattle.canonical_paths.specs.LaidOut.{LaidOut}
use Rattle.canonical_paths.specs.steps.Layouts.{HasSlot, inner_paths}
use Rattle.canonical_paths.specs.steps.PathLists.{PathLists, HaveLayouts, IsComplete, IsSlotOf, IsAliasOf}
use Rattle.canonical_paths.specs.steps.Kinds.{IsKindNamed, IsKindBelow, Types, AreOfTypes}
use Rattle.canonical_paths.specs.steps.Settings.{Setting}
use Rattle.canonical_paths.specs.steps.Ready.{StandOnce, CanBeLaidOut, Reaches, IsBindable, BindsNext}
use Rattle.canonical_paths.proofs.Elements.{there}
use Rattle.canonical_paths.proofs.Stretches.{within_is}
use Rattle.canonical_paths.proofs.BlocksInside.{split_path}
use Rattle.canonical_paths.proofs.FittingItems.{leads_to}
use Rattle.canonical_paths.proofs.KnownPaths.{inside_is_declared}

-- the type of what is found inside of a component
pub kind_behind :
    (t : Types) (layouts : List LaidOut) (l : LaidOut) → AreOfTypes t layouts l
    → (path rest : List Named) (first d : Named) → 0 < length path → first ≡ get_or path 0 d → rest ≡ take (length path - 1) (drop 1 path)
    → (kind : VarKind) → kind_of_path t.concepts t.items path ≡ Some kind
    → (s : Slot) → HasSlot l first.text s → (length rest ≡ 0 → ⊥)
    → (c : ℕ) (inside : LaidOut) → s.concept ≡ Some c → slice_get layouts c ≡ Some inside
    → (found : Option ℕ)
    → ((v : Types) → AreOfTypes v layouts inside → (k : VarKind) → kind_of_path v.concepts v.items rest ≡ Some k → IsKindBelow v.names (length layouts) k found)
    → IsKindBelow t.names (length layouts) kind found
kind_behind t layouts l of path rest first d some_name first_is rest_is kind e s slot more c inside at here found rec =
    let split = split_path path rest first d some_name first_is rest_is in
    let k = of.so_far first.text s slot in
    let along : kind_along t.concepts k.own.kind rest ≡ Some kind =
    sym (ap (option_and_then (λ (v : Variable). kind_along t.concepts v.kind rest)) k.is) ∙ subst (λ (ns : List Named). kind_of_path t.concepts t.items ns ≡ Some kind) split e in
    by k.own.kind rest more along (subst (IsKindNamed t.names k.own.kind) at k.number.named) rec
  where
    by : (own : VarKind) (ns : List Named) → (length ns ≡ 0 → ⊥) → kind_along t.concepts own ns ≡ Some kind → IsKindNamed t.names own (Some c) → ((v : Types) → AreOfTypes v layouts inside → (k : VarKind) → kind_of_path v.concepts v.items ns ≡ Some k → IsKindBelow v.names (length layouts) k found) → IsKindBelow t.names (length layouts) kind found
    by own [] m g n r = absurd (m refl)
    by Numeric (m ∷ ns) some g n r = absurd n
    by (Of type) (m ∷ ns) some g n r =
        r (record { names = t.names; concepts = t.concepts; items = effective_items t.concepts type.text })
        (record { concepts = of.concepts; so_far = of.concepts c inside type.text here n })
        kind g

-- the type of a variable alone
pub kind_alone :
    (t : Types) (layouts : List LaidOut) (l : LaidOut) → AreOfTypes t layouts l
    → (path rest : List Named) (first d : Named) → 0 < length path → first ≡ get_or path 0 d → rest ≡ take (length path - 1) (drop 1 path)
    → (kind : VarKind) → kind_of_path t.concepts t.items path ≡ Some kind
    → (s : Slot) → HasSlot l first.text s → length rest ≡ 0
    → IsKindBelow t.names (length layouts) kind s.concept
kind_alone t layouts l of path rest first d some_name first_is rest_is kind e s slot none =
    let split = split_path path rest first d some_name first_is rest_is in
    let k = of.so_far first.text s slot in
    let along : kind_along t.concepts k.own.kind rest ≡ Some kind =
    sym (ap (option_and_then (λ (v : Variable). kind_along t.concepts v.kind rest)) k.is) ∙ subst (λ (ns : List Named). kind_of_path t.concepts t.items ns ≡ Some kind) split e in
    by rest none along
  where
    by : (ns : List Named) → length ns ≡ 0 → kind_along t.concepts (of.so_far first.text s slot).own.kind ns ≡ Some kind → IsKindBelow t.names (length layouts) kind s.concept
    by [] m g = let k = of.so_far first.text s slot in subst (λ (o : VarKind). IsKindBelow t.names (length layouts) o s.concept) (same_Some k.own.kind kind g) k.number
    by (m ∷ ns) z g = absurd (omega (arith, z))

-- types that are one have one number
pub same_number : (names : List (List ℕ)) → StandOnce names → (k m : VarKind) (a b : Option ℕ) → is_same_kind k m ≡ true → IsKindNamed names k a → IsKindNamed names m b → a ≡ b
same_number names once Numeric Numeric None None e f g = refl
same_number names once Numeric Numeric None (Some b) e f g = absurd g
same_number names once Numeric Numeric (Some a) b e f g = absurd f
same_number names once Numeric (Of o) a b e f g = absurd (cc)
same_number names once (Of t) Numeric a b e f g = absurd (cc)
same_number names once (Of t) (Of o) None b e f g = absurd f
same_number names once (Of t) (Of o) (Some a) None e f g = absurd g
same_number names once (Of t) (Of o) (Some a) (Some b) e f g =
    ap (λ (n : ℕ). Some n) (once o.text a b (f ∙ ap (λ (n : List ℕ). Some n) ((bytes_eq-Decides t.text o.text).0 e)) g)

-- inside of a component a path begins with a variable of its type
pub along_is_path : (concepts : List ConceptTree) (type : Named) (names : List Named) (k : VarKind) → 0 < length names → kind_along concepts (Of type) names ≡ Some k → kind_of_path concepts (effective_items concepts type.text) names ≡ Some k
along_is_path concepts type [] k some h = absurd (omega arith)
along_is_path concepts type (m ∷ names) k some h = h

module _ (layouts : List LaidOut) (so_far : LaidOut) (concept : ℕ) (b : Bind) (next : BindsNext layouts so_far concept (b ∷ [])) where
  abbrev s : Setting
  s = next.setting

  pub its_sides : IsBindable next.setting next.paths (Of next.type) b
  its_sides = next.bindable b (contains_here b [])

  abbrev pub lists : PathLists
  lists = record { concepts = next.setting.lists; paths = next.paths }

  pub laid_here : HaveLayouts lists layouts so_far
  laid_here = record { concepts = next.ready.laid.lists; so_far = next.reached.covers.layout }

  pub whole_here : IsComplete lists layouts
  whole_here = record { concepts = next.ready.complete; few = omega (arith, next.few) }

  abbrev pub types_here : Types
  types_here = record { names = next.names; concepts = next.setting.earlier; items = next.setting.items }

  pub typed_here : AreOfTypes types_here layouts so_far
  typed_here = record { concepts = next.ready.typed; so_far = next.reached.kinds }

  -- the right side
  pub finds_right : (path : List Named) (o : Option Slot) → path ≡ b.right.parts → ((v : PathLists) → HaveLayouts v layouts so_far → IsComplete v layouts → Contains v.paths (texts path) → IsSome o) → IsSome o
  finds_right path o e known = known lists laid_here whole_here (subst (λ (ns : List Named). Contains next.paths (texts ns)) (sym e) its_sides.known)

  pub right_below : (path : List Named) (o : Option Slot) (r : Slot) → path ≡ b.right.parts → o ≡ Some r → ((t : Types) → AreOfTypes t layouts so_far → (k : VarKind) → kind_of_path t.concepts t.items path ≡ Some k → IfSome o (λ (v : Slot). IsKindBelow t.names (length layouts) k v.concept)) → IsKindBelow next.names (length layouts) its_sides.right r.concept
  right_below path o r e f kind =
      is_found o r f (kind types_here typed_here its_sides.right (subst (λ (ns : List Named). kind_of_path next.setting.earlier next.setting.items ns ≡ Some its_sides.right) (sym e) its_sides.right_is))
    where
      is_found : (p : Option Slot) (r : Slot) → p ≡ Some r → IfSome p (λ (v : Slot). IsKindBelow next.names (length layouts) its_sides.right v.concept) → IsKindBelow next.names (length layouts) its_sides.right r.concept
      is_found (Some x) r g h = subst (λ (v : Slot). IsKindBelow next.names (length layouts) its_sides.right v.concept) (same_Some x r g) h
      is_found None r g h = absurd (cc)

  pub right_at : (r : Slot) → IsSlotOf lists (names_in b.right) r → r.at < max_declared
  right_at r block = let w = slice_get_within next.paths (r.at + 0) _ (block.each 0 [] refl) in omega (arith, w, next.few)

  -- the component
  module _ (l : LaidOut) (is_there : slice_get layouts concept ≡ Some l) where
    abbrev pub inner : PathLists
    inner = record { concepts = next.setting.lists; paths = inner_paths next.setting.lists (Some concept) }

    pub laid_inside : HaveLayouts inner layouts l
    laid_inside = record { concepts = next.ready.laid.lists; so_far = next.ready.laid.lists concept l is_there }

    pub whole_inside : IsComplete inner layouts
    whole_inside =
        let size = (next.ready.laid.lists concept l is_there).size in
        let small = next.ready.small concept l is_there in
        record { concepts = next.ready.complete; few = omega (arith, size, small) }

    abbrev pub types_inside : Types
    types_inside = record { names = next.names; concepts = next.setting.earlier; items = effective_items next.setting.earlier next.type.text }

    pub typed_inside : AreOfTypes types_inside layouts l
    typed_inside = record { concepts = next.ready.typed; so_far = next.ready.typed concept l next.type.text is_there next.number }

    left_known : (names : List Named) (k : VarKind) → 0 < length names → kind_along next.setting.earlier (Of next.type) names ≡ Some k → Contains (inner_paths next.setting.lists (Some concept)) (texts names)
    left_known [] k some h = absurd (omega arith)
    left_known (m ∷ names) k some h =
        subst (λ (ps : List PathNames). Contains ps (m.text ∷ texts names)) (sym next.inside)
        (inside_is_declared next.setting.earlier next.ready.sound next.type m names k (leads_to next.setting.earlier (effective_items next.setting.earlier next.type.text) (m ∷ names) k h))

    pub finds_left : (path : List Named) (o : Option Slot) → 0 < length b.left.parts → path ≡ b.left.parts → ((v : PathLists) → HaveLayouts v layouts l → IsComplete v layouts → Contains v.paths (texts path) → IsSome o) → IsSome o
    finds_left path o some e known =
        known inner laid_inside whole_inside
        (subst (λ (ns : List Named). Contains (inner_paths next.setting.lists (Some concept)) (texts ns)) (sym e) (left_known b.left.parts its_sides.left some its_sides.left_is))

    pub left_below : (path : List Named) (o : Option Slot) (r : Slot) → 0 < length b.left.parts → path ≡ b.left.parts → o ≡ Some r → ((t : Types) → AreOfTypes t layouts l → (k : VarKind) → kind_of_path t.concepts t.items path ≡ Some k → IfSome o (λ (v : Slot). IsKindBelow t.names (length layouts) k v.concept)) → IsKindBelow next.names (length layouts) its_sides.left r.concept
    left_below path o r some e f kind =
        is_found o r f (kind types_inside typed_inside its_sides.left (subst (λ (ns : List Named). kind_of_path next.setting.earlier (effective_items next.setting.earlier next.type.text) ns ≡ Some its_sides.left) (sym e) (along_is_path next.setting.earlier next.type b.left.parts its_sides.left some its_sides.left_is)))
      where
        is_found : (p : Option Slot) (r : Slot) → p ≡ Some r → IfSome p (λ (v : Slot). IsKindBelow next.names (length layouts) its_sides.left v.concept) → IsKindBelow next.names (length layouts) its_sides.left r.concept
        is_found (Some x) r g h = subst (λ (v : Slot). IsKindBelow next.names (length layouts) its_sides.left v.concept) (same_Some x r g) h
        is_found None r g h = absurd (cc)

  -- both have one type
  pub one_type : (l r : Slot) → IsKindBelow next.names (length layouts) its_sides.left l.concept → IsKindBelow next.names (length layouts) its_sides.right r.concept → l.concept ≡ r.concept
  one_type l r h k = same_number next.names next.ready.once its_sides.left its_sides.right l.concept r.concept its_sides.same h.named k.named

  -- without a left path the right one has the component's type
  pub right_is_all : (r : Slot) → b.left.parts ≡ [] → IsKindBelow next.names (length layouts) its_sides.right r.concept → Some concept ≡ r.concept
  right_is_all r e k =
      let same : Of next.type ≡ its_sides.left = same_Some (Of next.type) its_sides.left (subst (λ (ns : List Named). kind_along next.setting.earlier (Of next.type) ns ≡ Some its_sides.left) e its_sides.left_is) in
      same_number next.names next.ready.once (Of next.type) its_sides.right (Some concept) r.concept (ap (λ (v : VarKind). is_same_kind v its_sides.right) same ∙ its_sides.same) next.number k.named

-- what is bound where all of a component is
pub all_stands : (w : PathLists) (inner : List PathNames) (b : Bind) (r : Slot) (size : ℕ) → b.left.parts ≡ [] → IsBlock w.paths r.at (names_in b.right) inner → size ≡ length inner → IsAliasOf w inner b (record { left = 0; size = size; right = r.at + 1 })
all_stands w inner b r size none block is =
    let empty : names_in b.left ≡ [] = ap texts none in
    record {
      stands = record {
        within = λ n q e.
            let lt = slice_get_within inner n q e in
            within_is 0 n size (is_prefix (names_in b.left) q) (ap (λ (p : PathNames). is_prefix p q) empty) (omega arith) (omega (arith, lt, is));
        right = λ n q e w'.
            let at : r.at + 1 + (n - 0) ≡ r.at + suc n = omega arith in
            ap (slice_get w.paths) at ∙ block.each (suc n) q e
            ∙ ap (λ (p : PathNames). Some (names_in b.right ++ p)) (sym (ap (λ (p : PathNames). drop (length p) q) empty));
      };
      within =
          let last = there ([] ∷ inner) (length inner) (omega arith) in
          let lt = slice_get_within w.paths (r.at + length inner) _ (block.each (length inner) last.0 last.1) in
          record { left = omega (arith, is); right = omega (arith, is, lt) };
    }

-- a binding among others
pub one_bind : (layouts : List LaidOut) (so_far : LaidOut) (concept : ℕ) (binds : List Bind) (i : ℕ) (b d : Bind) → i < length binds → b ≡ get_or binds i d → BindsNext layouts so_far concept binds → BindsNext layouts so_far concept (b ∷ [])
one_bind layouts so_far concept binds i b d lt is next = record {
  names = next.names;
  setting = next.setting;
  ready = next.ready;
  paths = next.paths;
  reached = next.reached;
  few = next.few;
  type = next.type;
  number = next.number;
  inside = next.inside;
  bindable = λ x h.
      let among : Contains binds b = member_at binds i b (slice_get-get_or binds i d lt ∙ ap (λ (y : Bind). Some y) (sym is)) in
      next.bindable x (⊎_elim (λ e. subst (Contains binds) e among) (λ k. absurd (contains_none x k)) (contains_cases b [] x h));
}
