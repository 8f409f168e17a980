-- What the layouts of a concept and of all that it reaches answer.
use Rattle.std.proofs.Common.{◌≡◌, ◌^◌, ℕ, zero, suc, ◌+◌, ◌<◌, ◌≤◌, Bool, true, false, List, [], ◌∷◌, ◌++◌, Option, Some, None, Ok, IfSome, map, length, refl, sym, ap, ◌∙◌, subst, arith}
use Rattle.std.specs.Prelude.{reverse, slice_get, unwrap_or, option_and_then, Contains, IsSome, ⊤}
use Rattle.std.specs.List.{flat_map}
use Rattle.std.proofs.lemmas.Option.{slice_get_within, same_Some, none-some}
use Rattle.priz_base.proofs.Members.{contains_here}
use Rattle.name_sets.proofs.Spelt.{member_at}
use Rattle.utopist_syntax.specs.Named.{Named}
use Rattle.utopist_syntax.specs.declared.item.VarKind.{VarKind}
use Rattle.utopist_syntax.specs.declared.item.VarKind.TheVariants.{Numeric, Of}
use Rattle.utopist_syntax.specs.FileTree.{ItemTree, ConceptTree}
use Rattle.name_sets.specs.Paths.{texts}
use Rattle.concept_rules.specs.Declarations.{is_among, declared, Variable, variable_of, variable}
use Rattle.concept_rules.specs.Kinds.{variable_in, kind_along, kind_of_path}
use Rattle.concept_rules.specs.Lineage.{concept_names, effective_items}
use Rattle.canonical_paths.specs.declared.slot.Slot.{Slot}
use Rattle.canonical_paths.specs.PathNames.{PathNames}
use Rattle.canonical_paths.specs.Canonical.{items_behind}
use Rattle.canonical_paths.specs.DeclaredPaths.{paths_in_kind, variable_paths, item_paths, declared_paths}
use Rattle.canonical_paths.specs.Blocks.{IsBlock}
use Rattle.canonical_paths.specs.LaidOut.{LaidOut}
use Rattle.canonical_paths.specs.Components.{effective_in, declared_in, IsNamed, DeclaresComponent, HasComponent}
use Rattle.canonical_paths.specs.Layouts.{AreLaidOut, IsReachedConcept, IsTypeNumber, IsFoundAt}
use Rattle.canonical_paths.specs.steps.Fitting.{AreSound}
use Rattle.canonical_paths.specs.steps.Layouts.{HasSlot, IsLayout, inner_paths}
use Rattle.canonical_paths.specs.steps.PathLists.{PathLists, HaveLayouts, IsComplete, IsSlotOf}
use Rattle.canonical_paths.specs.steps.Kinds.{Types, AreOfTypes, IsKindNamed, IsKindBelow, HasKind}
use Rattle.canonical_paths.proofs.Elements.{heads, there}
use Rattle.canonical_paths.proofs.FittingItems.{found_variable, leads_to}
use Rattle.canonical_paths.proofs.KnownPaths.{declared_again, variable_declares, leading_is_declared}
use Rattle.canonical_paths.proofs.FindingPaths.{place_of}
use Rattle.canonical_paths.proofs.ConceptNumbers.{standing, fitted, sound_here, items_here, stands_earlier, names_stand_once, names_number, is_named, name_at}
use Rattle.canonical_paths.proofs.MarkedConcepts.{type_known}

module _ (all : List ConceptTree) (asked : ℕ) (layouts : List LaidOut) (w : AreLaidOut all asked layouts) where
  abbrev earlier : List ConceptTree
  earlier = reverse all

  sound : AreSound (reverse all)
  sound = (fitted all w.kept).sound

  -- a type that is a number, or a concept that is reached
  abbrev IsReachedKind : VarKind → Type 0
  IsReachedKind Numeric = ⊤
  IsReachedKind (Of type) = (m : ℕ) × IsReachedConcept all w.reached m type.text

  -- the type of a variable of a concept that is reached
  variable_reached : (n : ℕ) (c : ConceptTree) → Contains w.reached n → slice_get all n ≡ Some c → (name : List ℕ) (v : Variable) → variable (effective_in all c) name ≡ Some v → IsReachedKind v.kind
  variable_reached n c r is name v e = by v.kind refl
    where
      by : (k : VarKind) → v.kind ≡ k → IsReachedKind k
      by Numeric f = tt
      by (Of type) f =
          let s = standing all n c is in
          let found = found_variable (effective_in all c) name v e in
          let d : DeclaresComponent found.item type.text = record { name = name; own = found.found.own; variable = v; is = found.is; of = type; kind = f; named = refl } in
          let known = type_known (reverse s.before) (items_behind (reverse s.before) c) (sound_here all w.kept n c s).fit.0 found.item (subst (λ (items : List ItemTree). Contains items found.item) (items_here all w.kept n c s) found.found.there) type.text d in
          let m = stands_earlier all w.kept n c s type.text known in
          let h : HasComponent all n m.number = record { concept = c; is = is; item = found.item; there = found.found.there; type = type.text; declares = d; number = is_named all m.number type.text m.is } in
          (m.number, record { named = h.number; among = w.inside n m.number r h })

  -- and that of a path behind it
  along_reached : (kind : VarKind) (path : List Named) (out : VarKind) → IsReachedKind kind → kind_along (reverse all) kind path ≡ Some out → IsReachedKind out
  along_reached kind [] out h e = subst IsReachedKind (same_Some kind out e) h
  along_reached Numeric (s ∷ path) out h e = absurd (cc)
  along_reached (Of type) (s ∷ path) out h e = by (variable (effective_items (reverse all) type.text) s.text) refl e (λ v. along_reached v.kind path out)
    where
      by : (o : Option Variable) → variable (effective_items (reverse all) type.text) s.text ≡ o → option_and_then (λ v. kind_along (reverse all) v.kind path) o ≡ Some out → ((v : Variable) → IsReachedKind v.kind → kind_along (reverse all) v.kind path ≡ Some out → IsReachedKind out) → IsReachedKind out
      by None f g rec = absurd (cc)
      by (Some v) f g rec =
          let d = h.1.named in
          rec v (variable_reached h.0 d.concept h.1.among d.is s.text v (ap (λ (t : List ℕ). variable (effective_items (reverse all) t) s.text) d.named ∙ f)) g

  -- a type's number is that of a concept that is reached
  number_reached : (kind : VarKind) (concept : Option ℕ) → IsReachedKind kind → IsKindNamed (concept_names all) kind concept → IsTypeNumber all w.reached kind concept
  number_reached Numeric None h n = tt
  number_reached Numeric (Some m) h n = absurd n
  number_reached (Of type) None h n = absurd n
  number_reached (Of type) (Some m) h n =
      subst (λ (k : ℕ). IsReachedConcept all w.reached k type.text) (names_stand_once all w.kept type.text h.0 m (names_number all h.0 type.text h.1.named) n) h.1

  inner_are : (kind : VarKind) (concept : Option ℕ) → IsTypeNumber all w.reached kind concept → inner_paths w.laid.lists concept ≡ paths_in_kind (declared_paths (reverse all)) kind
  inner_are Numeric None h = refl
  inner_are Numeric (Some m) h = absurd h
  inner_are (Of type) None h = absurd h
  inner_are (Of type) (Some m) h =
      ap (λ (o : Option (List PathNames)). unwrap_or o []) (w.laid.paths m h.named.concept h.among (w.below m h.among) h.named.is)
      ∙ ap (declared_paths (reverse all)) h.named.named

  -- a concept that is reached
  module _ (n : ℕ) (c : ConceptTree) (r : Contains w.reached n) (is : slice_get all n ≡ Some c) where
    pub has_layout : slice_get layouts n ≡ None → ⊥
    has_layout e = let l = there layouts n (w.below n r) in none-some l.0 (sym e ∙ l.1)

    module _ (l : LaidOut) (here : slice_get layouts n ≡ Some l) where
      abbrev lists : PathLists
      lists = record { concepts = w.laid.lists; paths = declared_in all c }

      its_layout : IsLayout w.laid.lists (declared_in all c) l
      its_layout =
          subst (λ (ps : List PathNames). IsLayout w.laid.lists ps l) (ap (λ (o : Option (List PathNames)). unwrap_or o []) (w.laid.paths n c r (w.below n r) is))
          (w.laid.layouts n l here)

      have_layouts : HaveLayouts lists layouts l
      have_layouts = record { concepts = w.laid.layouts; so_far = its_layout }

      complete : IsComplete lists layouts
      complete = let small = w.laid.small n l here in record { concepts = omega (arith, w.laid.count); few = omega (arith, small, its_layout.size) }

      abbrev types : Types
      types = record { names = concept_names all; concepts = reverse all; items = effective_in all c }

      of_types : AreOfTypes types layouts l
      of_types = record { concepts = w.laid.typed; so_far = w.laid.typed n l c.name.text here (name_at all n c is) }

      paths_again : declared_in all c ≡ flat_map (item_paths (declared_paths (reverse all))) (effective_in all c)
      paths_again = declared_again (reverse all) sound.once sound.fit c.name.text

      its_path : (path : List Named) (kind : VarKind) → kind_of_path (reverse all) (effective_in all c) path ≡ Some kind → Contains (declared_in all c) (texts path)
      its_path path kind e =
          subst (λ (ps : List PathNames). Contains ps (texts path)) (sym paths_again)
          (leading_is_declared (reverse all) sound (effective_in all c) path kind (leads_to (reverse all) (effective_in all c) path kind e))

      its_kind : (path : List Named) (kind : VarKind) → kind_of_path (reverse all) (effective_in all c) path ≡ Some kind → IsReachedKind kind
      its_kind [] kind e = absurd (cc)
      its_kind (s ∷ path) kind e = by (variable (effective_in all c) s.text) refl e
        where
          by : (o : Option Variable) → variable (effective_in all c) s.text ≡ o → option_and_then (λ v. kind_along (reverse all) v.kind path) o ≡ Some kind → IsReachedKind kind
          by None f g = absurd (cc)
          by (Some v) f g = along_reached v.kind path kind (variable_reached n c r is s.text v f) g

      -- what is found
      found_at : (path : PathNames) (kind : VarKind) (found : Option Slot) → IsSome found → IfSome found (IsSlotOf lists path) → IfSome found (λ s. IsKindNamed (concept_names all) kind s.concept) → IsReachedKind kind → IsFoundAt all w.reached c path kind found
      found_at path kind None some stands named k = absurd (cc)
      found_at path kind (Some s) some stands named k =
          let number = number_reached kind s.concept k named in
          record {
            slot = s;
            is = refl;
            block = subst (λ (inner : List PathNames). IsBlock (declared_in all c) s.at path inner) (inner_are kind s.concept number) stands;
            number = number;
          }

      pub path_found : (path : List Named) (found : Option Slot) (ls : List LaidOut) → ls ≡ layouts → ((v : PathLists) → HaveLayouts v ls l → IfSome found (IsSlotOf v (texts path))) → ((v : PathLists) → HaveLayouts v ls l → IsComplete v ls → Contains v.paths (texts path) → IsSome found) → ((t : Types) → AreOfTypes t ls l → (kind : VarKind) → kind_of_path t.concepts t.items path ≡ Some kind → IfSome found (λ s. IsKindBelow t.names (length ls) kind s.concept)) → (kind : VarKind) → kind_of_path (reverse all) (effective_in all c) path ≡ Some kind → IsFoundAt all w.reached c (texts path) kind found
      path_found path found ls same stands known kinds kind e =
          let have = subst (λ (xs : List LaidOut). HaveLayouts lists xs l) (sym same) have_layouts in
          found_at (texts path) kind found
          (known lists have (subst (IsComplete lists) (sym same) complete) (its_path path kind e))
          (stands lists have)
          (named found (kinds types (subst (λ (xs : List LaidOut). AreOfTypes types xs l) (sym same) of_types) kind e))
          (its_kind path kind e)
        where
          named : (o : Option Slot) → IfSome o (λ s. IsKindBelow (concept_names all) (length ls) kind s.concept) → IfSome o (λ s. IsKindNamed (concept_names all) kind s.concept)
          named None h = tt
          named (Some s) h = h.named

      -- a variable alone
      its_name : (name : List ℕ) (v : Variable) → variable (effective_in all c) name ≡ Some v → Contains l.names name
      its_name name v e =
          let found = found_variable (effective_in all c) name v e in
          let p : Contains (declared_in all c) (name ∷ []) =
          subst (λ (ps : List PathNames). Contains ps (name ∷ [])) (sym paths_again)
          (variable_declares (declared_paths (reverse all)) (effective_in all c) found.item v name (name ∷ []) found.found.there found.is found.found.own
          (contains_here (name ∷ []) (map (λ p. name ∷ p) (paths_in_kind (declared_paths (reverse all)) v.kind)))) in
          let at = place_of (declared_in all c) (name ∷ []) p in
          let b = its_layout.begin at.0 (name ∷ []) at.1 in
          subst (Contains l.names) (sym (heads name b.first [] b.rest b.is)) b.among

      pub variable_found : (name : List ℕ) (found : Option Slot) → IfSome found (HasSlot l name) → (length l.names ≡ length l.slots → Contains l.names name → IsSome found) → (v : Variable) → variable (effective_in all c) name ≡ Some v → IsFoundAt all w.reached c (name ∷ []) v.kind found
      variable_found name found slot known v e =
          found_at (name ∷ []) v.kind found (known its_layout.count (its_name name v e)) (stands found slot) (kind found slot) (variable_reached n c r is name v e)
        where
          stands : (o : Option Slot) → IfSome o (HasSlot l name) → IfSome o (IsSlotOf lists (name ∷ []))
          stands None h = tt
          stands (Some s) h = its_layout.each name s h

          kind : (o : Option Slot) → IfSome o (HasSlot l name) → IfSome o (λ s. IsKindNamed (concept_names all) v.kind s.concept)
          kind None h = tt
          kind (Some s) h =
              let k = of_types.so_far name s h in
              subst (λ (u : Variable). IsKindNamed (concept_names all) u.kind s.concept) (same_Some k.own v (sym k.is ∙ e)) k.number.named
