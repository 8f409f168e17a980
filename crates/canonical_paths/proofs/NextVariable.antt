-- A variable that comes next in a concept: its name is new, and there is room for its paths.
use Rattle.std.proofs.Common.{◌≡◌, ℕ, zero, suc, ◌+◌, ◌<◌, ◌≤◌, ◌^◌, Bool, true, false, ◌||◌, List, [], ◌∷◌, ◌++◌, Option, Some, None, map, length, refl, sym, ap, ◌∙◌, subst, ⊎_elim, ◌⊎◌, inl, inr, append_assoc, append-nil, length-append, arith}
use Rattle.std.specs.Prelude.{if◌then◌else◌, is_some, reverse, slice_get, Contains, IfSome, option_and_then}
use Rattle.std.specs.Str.{bytes_eq}
use Rattle.std.specs.List.{flat_map}
use Rattle.std.proofs.lemmas.Bool.{both_ways, or_left, or_right, false_from_ne_true}
use Rattle.std.proofs.lemmas.Grind.{flat_map-append}
use Rattle.std.proofs.lemmas.List.{length-map}
use Rattle.std.proofs.lemmas.List.Elements.{Contains-append_left, Contains-append_right, Contains-append_cases}
use Rattle.std.proofs.lemmas.Option.{slice_get_within, same_Some}
use Rattle.std.proofs.lemmas.Slice.Eq.{bytes_eq-Decides}
use Rattle.priz_base.proofs.Members.{contains_here, contains_there, contains_cases, contains_none}
use Rattle.utopist_syntax.specs.Named.{Named}
use Rattle.utopist_syntax.specs.declared.item.Bind.{Bind}
use Rattle.utopist_syntax.specs.declared.item.VarKind.{VarKind}
use Rattle.utopist_syntax.specs.declared.item.VarKind.TheVariants.{Numeric, Of}
use Rattle.utopist_syntax.specs.FileTree.{ItemTree, var, eq, rel, ConceptTree}
use Rattle.name_sets.specs.Paths.{texts}
use Rattle.name_sets.proofs.Places.{at_push}
use Rattle.name_sets.proofs.Spelt.{member_at}
use Rattle.concept_rules.specs.Declarations.{is_among, declared, declaration, is_declared, Variable, variable_of, variable}
use Rattle.concept_rules.specs.Kinds.{kind_along, kind_of_path}
use Rattle.concept_rules.proofs.Sharing.{declared_first, declared_behind}
use Rattle.canonical_paths.specs.declared.slot.Slot.{Slot}
use Rattle.canonical_paths.specs.declared.tables.Alias.{Alias}
use Rattle.canonical_paths.specs.PathNames.{PathNames, names_in}
use Rattle.canonical_paths.specs.DeclaredPaths.{paths_in_kind, variable_paths, item_paths, declared_paths}
use Rattle.canonical_paths.specs.Scoped.{IsScoped, AreScoped}
use Rattle.canonical_paths.specs.Limits.{max_declared}
use Rattle.canonical_paths.specs.LaidOut.{LaidOut}
use Rattle.canonical_paths.specs.steps.Layouts.{HasSlot, IsLayout, inner_paths, with_variable}
use Rattle.canonical_paths.specs.steps.Fitting.{LeadsToKind, Joins, AllJoin, IsKnownKind, AreOnce, VariablesFit, AllFit}
use Rattle.canonical_paths.specs.steps.Kinds.{IsKindNamed, IsKindBelow, HasKind, HaveKinds}
use Rattle.canonical_paths.specs.steps.Settings.{Setting, IsKindNumber, paths_of_items, paths_of_variables}
use Rattle.canonical_paths.specs.steps.Ready.{CanBeLaidOut, Reaches, IsBindable, paths_behind}
use Rattle.canonical_paths.proofs.Elements.{heads, there}
use Rattle.canonical_paths.proofs.Scopes.{scoped_at}
use Rattle.canonical_paths.proofs.Scoping.{reverse_declares}
use Rattle.canonical_paths.proofs.FindingPaths.{place_of}
use Rattle.canonical_paths.proofs.Covering.{turned}
use Rattle.canonical_paths.proofs.TakingItems.{own_name, kind_paths}
use Rattle.canonical_paths.proofs.FittingItems.{fit_behind}
use Rattle.canonical_paths.proofs.KnownPaths.{leading_is_declared}

-- a list around one of its elements
pub record Split {X : Type 0} (xs : List X) (x : X) : Type 0 where
  pub before : List X
  pub rest : List X
  pub is : xs ≡ before ++ x ∷ rest

pub split_at : {X : Type 0} (xs : List X) (x : X) → Contains xs x → Split xs x
split_at [] x h = absurd (contains_none x h)
split_at {X} (y ∷ xs) x h =
    ⊎_elim
    (λ e. record { before = []; rest = xs; is = ap (λ (z : X). z ∷ xs) e })
    (λ k. let r = split_at xs x k in record { before = y ∷ r.before; rest = r.rest; is = ap (λ (zs : List X). y ∷ zs) r.is })
    (contains_cases y xs x h)

-- the item that declares a name which no item before it declares
declaration_at : (before : List ItemTree) (i : ItemTree) (rest : List ItemTree) (name : List ℕ) → is_declared before name ≡ false → is_among name (declared i) ≡ true → declaration (before ++ i ∷ rest) name ≡ Some i
declaration_at [] i rest name f own = ap (λ (t : Bool). if t then Some i else declaration rest name) own
declaration_at (j ∷ before) i rest name f own = by (is_among name (declared j)) refl (declaration_at before i rest name)
  where
    by : (t : Bool) → is_among name (declared j) ≡ t → (is_declared before name ≡ false → is_among name (declared i) ≡ true → declaration (before ++ i ∷ rest) name ≡ Some i) → (if t then Some j else declaration (before ++ i ∷ rest) name) ≡ Some i
    by true e k = absurd (both_ways (is_declared (j ∷ before) name) f (ap (λ (t : Bool). is_some (if t then Some j else declaration before name)) e))
    by false e k = k (sym (ap (λ (t : Bool). is_some (if t then Some j else declaration before name)) e) ∙ f) own

-- in scoped items
module _ (items : List ItemTree) (scoped : AreScoped (reverse items)) where
  pub not_before : (before : List ItemTree) (i : ItemTree) (rest : List ItemTree) (name : List ℕ) → items ≡ before ++ i ∷ rest → is_among name (declared i) ≡ true → is_declared before name ≡ false
  not_before before i rest name e own =
      let s = scoped_at (reverse rest) i (reverse before) (subst AreScoped (turned items before rest i e) scoped) in
      false_from_ne_true (is_declared before name) (λ d. both_ways (is_declared (reverse before) name) (s.new name own) (reverse_declares before name d))

  pub its_declaration : (i : ItemTree) (name : List ℕ) → Contains items i → is_among name (declared i) ≡ true → declaration items name ≡ Some i
  its_declaration i name h own =
      let s = split_at items i h in
      subst (λ (is : List ItemTree). declaration is name ≡ Some i) (sym s.is)
      (declaration_at s.before i s.rest name (not_before s.before i s.rest name s.is own) own)

  pub its_variable : (i : ItemTree) (v : Variable) (name : List ℕ) → Contains items i → is_among name (declared i) ≡ true → variable_of i ≡ Some v → variable items name ≡ Some v
  its_variable i v name h own is = ap (option_and_then variable_of) (its_declaration i name h own) ∙ is

  -- what leads to a type from some of them, does so from all
  pub leads_from_all : (concepts : List ConceptTree) (some : List ItemTree) (names : List Named) (kind : VarKind) → ((i : ItemTree) → Contains some i → Contains items i) → LeadsToKind concepts some names kind → kind_of_path concepts items names ≡ Some kind
  leads_from_all concepts some names kind among l =
      ap (kind_of_path concepts items) l.is
      ∙ ap (option_and_then (λ (v : Variable). kind_along concepts v.kind l.rest)) (its_variable l.item l.variable l.first.text (among l.item l.there) l.own l.is_variable)
      ∙ l.along

-- a name of a layout is that of a path
pub has_path : (concepts : List (List PathNames)) (paths : List PathNames) (l : LaidOut) (name : List ℕ) → IsLayout concepts paths l → Contains l.names name → Contains paths (name ∷ [])
has_path concepts paths l name h c =
    let p = place_of l.names name c in
    let w = slice_get_within l.names p.0 name p.1 in
    let s = there l.slots p.0 (omega (arith, w, h.count)) in
    let b = h.each name s.0 (record { place = p.0; name_is = p.1; slot_is = s.1 }) in
    member_at paths (s.0.at + 0) (name ∷ []) (b.each 0 [] refl)

begins_so : (inner : List PathNames) (own name : List ℕ) (rest : PathNames) → Contains (variable_paths inner own) (name ∷ rest) → own ≡ name
begins_so inner own name rest h = ⊎_elim (λ e. heads own name [] rest e) (λ k. mapped inner k) (contains_cases (own ∷ []) (map (λ p. own ∷ p) inner) (name ∷ rest) h)
  where
    mapped : (ps : List PathNames) → Contains (map (λ p. own ∷ p) ps) (name ∷ rest) → own ≡ name
    mapped [] k = absurd (contains_none (name ∷ rest) k)
    mapped (p ∷ ps) k = ⊎_elim (λ e. heads own name p rest e) (λ g. mapped ps g) (contains_cases (own ∷ p) (map (λ p. own ∷ p) ps) (name ∷ rest) k)

pub begins_named : (inner : List PathNames) (names : List Named) (name : List ℕ) (rest : PathNames) → Contains (flat_map (λ n. variable_paths inner n.text) names) (name ∷ rest) → is_among name (texts names) ≡ true
begins_named inner [] name rest h = absurd (contains_none (name ∷ rest) h)
begins_named inner (n ∷ names) name rest h =
    ⊎_elim
    (λ k. or_left (bytes_eq name n.text) (is_among name (texts names)) ((bytes_eq-Decides name n.text).1 (sym (begins_so inner n.text name rest k))))
    (λ k. or_right (bytes_eq name n.text) (is_among name (texts names)) (begins_named inner names name rest k))
    (Contains-append_cases (variable_paths inner n.text) (flat_map (λ n. variable_paths inner n.text) names) (name ∷ rest) h)

pub begins_item : (inside : List ℕ → List PathNames) (i : ItemTree) (name : List ℕ) (rest : PathNames) → Contains (item_paths inside i) (name ∷ rest) → is_among name (declared i) ≡ true
begins_item inside (var names kind binds) name rest h = begins_named (paths_in_kind inside kind) names name rest h
begins_item inside (eq left right) name rest h = absurd (contains_none (name ∷ rest) h)
begins_item inside (rel n parts output body) name rest h = absurd (contains_none (name ∷ rest) h)

pub begins_declared : (inside : List ℕ → List PathNames) (items : List ItemTree) (name : List ℕ) (rest : PathNames) → Contains (flat_map (item_paths inside) items) (name ∷ rest) → is_declared items name ≡ true
begins_declared inside [] name rest h = absurd (contains_none (name ∷ rest) h)
begins_declared inside (i ∷ items) name rest h =
    ⊎_elim
    (λ k. ap (λ (t : Bool). is_some (if t then Some i else declaration items name)) (begins_item inside i name rest k))
    (λ k. declared_behind (i ∷ []) items name (begins_declared inside items name rest k))
    (Contains-append_cases (item_paths inside i) (flat_map (item_paths inside) items) (name ∷ rest) h)

pub once_at : (others : List (List ℕ)) (done : List Named) (n : Named) (more : List Named) → AreOnce others (done ++ n ∷ more) → is_among n.text (others ++ texts done) ≡ false
once_at others [] n more h = subst (λ (ns : List (List ℕ)). is_among n.text ns ≡ false) (sym (append-nil others)) h.0
once_at others (m ∷ done) n more h =
    subst (λ (ns : List (List ℕ)). is_among n.text ns ≡ false) (append_assoc others (m.text ∷ []) (texts done)) (once_at (others ++ m.text ∷ []) done n more h.1)

pub joins_of : (concepts : List ConceptTree) (before : List ItemTree) (kind : VarKind) (binds : List Bind) (b : Bind) → AllJoin concepts before kind binds → Contains binds b → Joins concepts before kind b
joins_of concepts before kind [] b j h = absurd (contains_none b h)
joins_of concepts before kind (c ∷ binds) b j h =
    ⊎_elim (λ e. subst (Joins concepts before kind) e j.0) (λ k. joins_of concepts before kind binds b j.1 k) (contains_cases c binds b h)

-- where one more variable stands
abbrev slot_of : LaidOut → Option ℕ → Slot
slot_of l concept = record { at = length l.table; concept = concept }

-- one more variable has its type
pub kinds_grow : (names : List (List ℕ)) (count : ℕ) (items : List ItemTree) (l : LaidOut) (name : List ℕ) (concept : Option ℕ) (aliases : List Alias) (inside : List ℕ) → length l.names ≡ length l.slots → HaveKinds names count items l → HasKind names count items name concept → HaveKinds names count items (with_variable l name concept aliases inside)
kinds_grow names count items l name concept aliases inside even old own n s g = by (at_push l.names name n g.place g.name_is) (at_push l.slots (slot_of l concept) s g.place g.slot_is)
  where
    by : (slice_get l.names g.place ≡ Some n) ⊎ ((g.place ≡ length l.names) × (name ≡ n)) → (slice_get l.slots g.place ≡ Some s) ⊎ ((g.place ≡ length l.slots) × (slot_of l concept ≡ s)) → HasKind names count items n s.concept
    by (inl a) (inl b) = old n s (record { place = g.place; name_is = a; slot_is = b })
    by (inl a) (inr b) = let w = slice_get_within l.names g.place n a in absurd (omega (arith, w, b.0, even))
    by (inr a) (inl b) = let w = slice_get_within l.slots g.place s b in absurd (omega (arith, w, a.0, even))
    by (inr a) (inr b) =
        subst (λ (m : List ℕ). HasKind names count items m s.concept) a.1
        (subst (λ (r : Slot). HasKind names count items name r.concept) b.1 own)

module _ (s : Setting) (names : List (List ℕ)) (layouts : List LaidOut) (ready : CanBeLaidOut s names layouts) (before : List ItemTree) (done : List Named) (n : Named) (more : List Named) (kind : VarKind) (binds : List Bind) (rest : List ItemTree) (concept : Option ℕ) (are : s.items ≡ before ++ var (done ++ n ∷ more) kind binds ∷ rest) (number : IsKindBelow names (length layouts) kind concept) where
  abbrev item : ItemTree
  item = var (done ++ n ∷ more) kind binds

  abbrev inner : List PathNames
  inner = inner_paths s.lists concept

  pub own : is_among n.text (declared item) ≡ true
  own = own_name (done ++ n ∷ more) n (Contains-append_right done (n ∷ more) n (contains_here n more))

  pub is_here : Contains s.items item
  is_here = subst (λ (is : List ItemTree). Contains is item) (sym are) (Contains-append_right before (item ∷ rest) item (contains_here item rest))

  pub kind_number : IsKindNumber s layouts kind concept
  kind_number = ready.laid.kinds item (record { kind = kind; binds = binds }) n.text concept is_here refl own number.named

  pub fits : VariablesFit s.earlier before (done ++ n ∷ more) kind binds
  fits = let f = fit_behind s.earlier [] before (item ∷ rest) (subst (AllFit s.earlier []) are ready.fit) in f.0

  -- its name is new
  pub is_new : (l : LaidOut) → IsLayout s.lists (paths_behind s before concept done) l → ¬ Contains l.names n.text
  is_new l h c =
      ⊎_elim
      (λ k. both_ways (is_declared before n.text) (not_before s.items ready.laid.scoped before item rest n.text are own) (begins_declared (declared_paths s.earlier) before n.text [] k))
      (λ k. both_ways (is_among n.text (texts done)) (once_at [] done n more fits.once) (begins_named inner done n.text [] k))
      (Contains-append_cases (paths_of_items s before) (paths_of_variables s concept done) (n.text ∷ []) (has_path s.lists (paths_behind s before concept done) l n.text h c))

  -- it has its type
  pub has_kind : HasKind names (length layouts) s.items n.text concept
  has_kind = record {
    own = record { kind = kind; binds = binds };
    is = its_variable s.items ready.laid.scoped item (record { kind = kind; binds = binds }) n.text is_here own refl;
    number = number;
  }

  -- there is room for its paths
  pub has_room : length (paths_behind s before concept done) + suc (length inner) ≤ max_declared
  has_room =
      let f : Named → List PathNames = λ m. variable_paths inner m.text in
      let whole : paths_of_items s s.items ≡ paths_of_items s before ++ (item_paths (declared_paths s.earlier) item ++ paths_of_items s rest) =
      ap (paths_of_items s) are ∙ flat_map-append (item_paths (declared_paths s.earlier)) before (item ∷ rest) in
      let its : item_paths (declared_paths s.earlier) item ≡ flat_map f (done ++ n ∷ more) = ap (λ (ps : List PathNames). flat_map (λ m. variable_paths ps m.text) (done ++ n ∷ more)) (kind_paths s layouts kind concept kind_number) in
      let parts : flat_map f (done ++ n ∷ more) ≡ flat_map f done ++ (f n ++ flat_map f more) = flat_map-append f done (n ∷ more) in
      let a = ap length whole ∙ length-append (paths_of_items s before) (item_paths (declared_paths s.earlier) item ++ paths_of_items s rest) in
      let b = length-append (item_paths (declared_paths s.earlier) item) (paths_of_items s rest) in
      let c = ap length (its ∙ parts) ∙ length-append (flat_map f done) (f n ++ flat_map f more) in
      let d = length-append (f n) (flat_map f more) in
      let e = length-append (paths_of_items s before) (paths_of_variables s concept done) in
      let g = length-map inner (λ (p : PathNames). n.text ∷ p) in
      omega (arith, a, b, c, d, e, g, ready.room)

  -- its bindings join known paths
  pub bindable : (b : Bind) → Contains binds b → IsBindable s (paths_behind s before concept done) kind b
  bindable b h =
      let j = joins_of s.earlier before kind binds b fits.join h in
      let among : (i : ItemTree) → Contains before i → Contains s.items i = λ i k. subst (λ (is : List ItemTree). Contains is i) (sym are) (Contains-append_left before (item ∷ rest) i k) in
      record {
        left = j.left;
        right = j.right;
        left_is = j.left_is;
        right_is = leads_from_all s.items ready.laid.scoped s.earlier before b.right.parts j.right among j.right_is;
        same = j.same;
        known = Contains-append_left (paths_of_items s before) (paths_of_variables s concept done) (names_in b.right) (leading_is_declared s.earlier ready.sound before b.right.parts j.right j.right_is);
      }
