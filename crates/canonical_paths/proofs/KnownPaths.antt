-- A path that is known is declared.
use Rattle.std.proofs.Common.{◌≡◌, ℕ, Bool, true, false, ◌||◌, List, [], ◌∷◌, ◌++◌, Option, Some, None, map, refl, sym, ap, ◌∙◌, subst, ⊎_elim}
use Rattle.std.specs.Prelude.{if◌then◌else◌, Contains, option_and_then}
use Rattle.std.specs.Str.{bytes_eq}
use Rattle.std.specs.List.{flat_map}
use Rattle.std.proofs.lemmas.Bool.{both_ways, or_right}
use Rattle.std.proofs.lemmas.List.Elements.{Contains-append_left, Contains-append_right}
use Rattle.std.proofs.lemmas.Option.{same_Some}
use Rattle.std.proofs.lemmas.Slice.Eq.{bytes_eq-Decides}
use Rattle.priz_base.proofs.Members.{contains_here, contains_there, contains_cases, contains_none, contains_map}
use Rattle.utopist_syntax.specs.Named.{Named}
use Rattle.utopist_syntax.specs.declared.item.Bind.{Bind}
use Rattle.utopist_syntax.specs.declared.item.VarKind.{VarKind}
use Rattle.utopist_syntax.specs.declared.item.VarKind.TheVariants.{Numeric, Of}
use Rattle.utopist_syntax.specs.FileTree.{ItemTree, var, eq, rel, ConceptTree}
use Rattle.name_sets.specs.Paths.{texts}
use Rattle.concept_rules.specs.Declarations.{is_among, declared, Variable, variable_of, variable}
use Rattle.concept_rules.specs.Kinds.{kind_along, kind_of_path}
use Rattle.concept_rules.specs.Lineage.{concept_names, lineage, all_items, effective_items, ancestors}
use Rattle.canonical_paths.specs.PathNames.{PathNames}
use Rattle.canonical_paths.specs.Canonical.{items_behind}
use Rattle.canonical_paths.specs.DeclaredPaths.{paths_in_kind, variable_paths, item_paths, declared_paths}
use Rattle.canonical_paths.specs.steps.Fitting.{LeadsToKind, IsKnownKind, AllFit, ConceptsFit, AreNamedOnce, AreSound}
use Rattle.canonical_paths.proofs.FittingItems.{IsVariable, found_variable, known_in}
use Rattle.canonical_paths.proofs.FittingConcepts.{is_other, same_lineage, no_lineage}

-- each variable has a type that is one of these concepts
abbrev pub AreKnown : List ConceptTree → List ItemTree → Type 0
AreKnown concepts items = (names : List Named) (kind : VarKind) (binds : List Bind) → Contains items (var names kind binds) → IsKnownKind concepts kind

known_more : (c : ConceptTree) (earlier : List ConceptTree) (kind : VarKind) → IsKnownKind earlier kind → IsKnownKind (c ∷ earlier) kind
known_more c earlier Numeric h = tt
known_more c earlier (Of type) h = or_right (bytes_eq type.text c.name.text) (is_among type.text (concept_names earlier)) h

-- the effective items of the concept that stands first
module _ (c : ConceptTree) (earlier : List ConceptTree) where
  abbrev pub own : List ItemTree
  own = items_behind earlier c

  abbrev pub here : List ItemTree
  here = all_items (ancestors earlier c.parents ++ c ∷ [])

  pub own_is_here : own ≡ here
  own_is_here = ap (λ (t : Bool). all_items (if t then ancestors earlier c.parents ++ c ∷ [] else lineage earlier c.name.text)) ((bytes_eq-Decides c.name.text c.name.text).1 refl)

-- so it is for the effective items of each concept
pub all_known : (concepts : List ConceptTree) → ConceptsFit concepts → (name : List ℕ) → AreKnown concepts (effective_items concepts name)
all_known [] h name names kind binds k = absurd (contains_none _ k)
all_known (c ∷ earlier) h name names kind binds k =
    known_more c earlier kind (by (bytes_eq c.name.text name) k (known_in earlier [] (own c earlier) h.0 names kind binds) (all_known earlier h.1 name names kind binds))
  where
    by : (t : Bool) → Contains (all_items (if t then ancestors earlier c.parents ++ c ∷ [] else lineage earlier name)) (var names kind binds) → (Contains (own c earlier) (var names kind binds) → IsKnownKind earlier kind) → (Contains (effective_items earlier name) (var names kind binds) → IsKnownKind earlier kind) → IsKnownKind earlier kind
    by true g first rest = first (subst (λ (is : List ItemTree). Contains is (var names kind binds)) (sym (own_is_here c earlier)) g)
    by false g first rest = rest g

-- a list of paths for each of some items, and another way to make it
pub same_paths : (f g : ItemTree → List PathNames) (items : List ItemTree) → ((i : ItemTree) → Contains items i → f i ≡ g i) → flat_map f items ≡ flat_map g items
same_paths f g [] h = refl
same_paths f g (i ∷ items) h =
    ap (λ (ps : List PathNames). ps ++ flat_map f items) (h i (contains_here i items))
    ∙ ap (λ (ps : List PathNames). g i ++ ps) (same_paths f g items (λ j k. h j (contains_there i items j k)))

module _ (c : ConceptTree) (earlier : List ConceptTree) (fresh : is_among c.name.text (concept_names earlier) ≡ false) where
  -- one more concept has no part in what was declared before
  pub same_declared : (name : List ℕ) → is_among name (concept_names earlier) ≡ true → declared_paths earlier name ≡ declared_paths (c ∷ earlier) name
  same_declared name h = ap (λ (t : Bool). if t then flat_map (item_paths (declared_paths earlier)) (items_behind earlier c) else declared_paths earlier name) (sym (is_other c earlier fresh name h))

  same_in_kind : (kind : VarKind) → IsKnownKind earlier kind → paths_in_kind (declared_paths earlier) kind ≡ paths_in_kind (declared_paths (c ∷ earlier)) kind
  same_in_kind Numeric h = refl
  same_in_kind (Of type) h = same_declared type.text h

  same_item : (items : List ItemTree) → AreKnown earlier items → (i : ItemTree) → Contains items i → item_paths (declared_paths earlier) i ≡ item_paths (declared_paths (c ∷ earlier)) i
  same_item items known (var names kind binds) k = ap (λ (ps : List PathNames). flat_map (λ n. variable_paths ps n.text) names) (same_in_kind kind (known names kind binds k))
  same_item items known (eq left right) k = refl
  same_item items known (rel n parts output body) k = refl

  pub same_items : (items : List ItemTree) → AreKnown earlier items → flat_map (item_paths (declared_paths earlier)) items ≡ flat_map (item_paths (declared_paths (c ∷ earlier))) items
  same_items items known = same_paths (item_paths (declared_paths earlier)) (item_paths (declared_paths (c ∷ earlier))) items (same_item items known)

-- the declared paths of a concept are those of its effective items
pub declared_again : (concepts : List ConceptTree) → AreNamedOnce concepts → ConceptsFit concepts → (name : List ℕ) → declared_paths concepts name ≡ flat_map (item_paths (declared_paths concepts)) (effective_items concepts name)
declared_again [] once fit name = refl
declared_again (c ∷ earlier) once fit name =
    by (bytes_eq c.name.text name) (same_items c earlier once.0 (own c earlier) (known_in earlier [] (own c earlier) fit.0)) (declared_again earlier once.1 fit.1 name ∙ same_items c earlier once.0 (effective_items earlier name) (all_known earlier fit.1 name))
  where
    by : (t : Bool) → flat_map (item_paths (declared_paths earlier)) (own c earlier) ≡ flat_map (item_paths (declared_paths (c ∷ earlier))) (own c earlier) → declared_paths earlier name ≡ flat_map (item_paths (declared_paths (c ∷ earlier))) (effective_items earlier name) → (if t then flat_map (item_paths (declared_paths earlier)) (own c earlier) else declared_paths earlier name) ≡ flat_map (item_paths (declared_paths (c ∷ earlier))) (all_items (if t then ancestors earlier c.parents ++ c ∷ [] else lineage earlier name))
    by true first rest = first ∙ ap (flat_map (item_paths (declared_paths (c ∷ earlier)))) (own_is_here c earlier)
    by false first rest = rest

-- a name among the names of variables
named_so : (inside : List PathNames) (names : List Named) (name : List ℕ) (p : PathNames) → is_among name (texts names) ≡ true → Contains (variable_paths inside name) p → Contains (flat_map (λ n. variable_paths inside n.text) names) p
named_so inside [] name p h k = absurd (both_ways (is_among name (texts [])) refl h)
named_so inside (n ∷ names) name p h k = by (bytes_eq name n.text) refl (named_so inside names name p)
  where
    by : (t : Bool) → bytes_eq name n.text ≡ t → (is_among name (texts names) ≡ true → Contains (variable_paths inside name) p → Contains (flat_map (λ n. variable_paths inside n.text) names) p) → Contains (flat_map (λ n. variable_paths inside n.text) (n ∷ names)) p
    by true e rec = Contains-append_left (variable_paths inside n.text) (flat_map (λ n. variable_paths inside n.text) names) p (subst (λ (m : List ℕ). Contains (variable_paths inside m) p) ((bytes_eq-Decides name n.text).0 e) k)
    by false e rec = Contains-append_right (variable_paths inside n.text) (flat_map (λ n. variable_paths inside n.text) names) p (rec (sym (ap (λ (t : Bool). t || is_among name (texts names)) e) ∙ h) k)

module _ (inside : List ℕ → List PathNames) where
  item_has : (i : ItemTree) (v : Variable) (name : List ℕ) (p : PathNames) → variable_of i ≡ Some v → is_among name (declared i) ≡ true → Contains (variable_paths (paths_in_kind inside v.kind) name) p → Contains (item_paths inside i) p
  item_has (var names kind binds) v name p is own k =
      let same : record { kind = kind; binds = binds } ≡ v = same_Some (record { kind = kind; binds = binds }) v is in
      named_so (paths_in_kind inside kind) names name p own (subst (λ (u : Variable). Contains (variable_paths (paths_in_kind inside u.kind) name) p) (sym same) k)
  item_has (eq left right) v name p is own k = absurd (cc)
  item_has (rel n parts output body) v name p is own k = absurd (cc)

  items_have : (items : List ItemTree) (i : ItemTree) (p : PathNames) → Contains items i → Contains (item_paths inside i) p → Contains (flat_map (item_paths inside) items) p
  items_have [] i p h k = absurd (contains_none i h)
  items_have (j ∷ items) i p h k =
      ⊎_elim
      (λ e. Contains-append_left (item_paths inside j) (flat_map (item_paths inside) items) p (subst (λ (x : ItemTree). Contains (item_paths inside x) p) (sym e) k))
      (λ g. Contains-append_right (item_paths inside j) (flat_map (item_paths inside) items) p (items_have items i p g k))
      (contains_cases j items i h)

  pub variable_declares : (items : List ItemTree) (i : ItemTree) (v : Variable) (name : List ℕ) (p : PathNames) → Contains items i → variable_of i ≡ Some v → is_among name (declared i) ≡ true → Contains (variable_paths (paths_in_kind inside v.kind) name) p → Contains (flat_map (item_paths inside) items) p
  variable_declares items i v name p there is own k = items_have items i p there (item_has i v name p is own k)

module _ (concepts : List ConceptTree) (sound : AreSound concepts) where
  abbrev inside : List ℕ → List PathNames
  inside = declared_paths concepts

  -- a path behind a variable of this type
  pub behind_known : (kind k : VarKind) (rest : List Named) → kind_along concepts kind rest ≡ Some k → (name : List ℕ) → Contains (variable_paths (paths_in_kind inside kind) name) (name ∷ texts rest)
  behind_known kind k [] h name = contains_here (name ∷ []) (map (λ p. name ∷ p) (paths_in_kind inside kind))
  behind_known Numeric k (m ∷ rest) h name = absurd (cc)
  behind_known (Of type) k (m ∷ rest) h name = by (variable (effective_items concepts type.text) m.text) refl h (λ v g. behind_known v.kind k rest g m.text)
    where
      by : (o : Option Variable) → variable (effective_items concepts type.text) m.text ≡ o → option_and_then (λ v. kind_along concepts v.kind rest) o ≡ Some k → ((v : Variable) → kind_along concepts v.kind rest ≡ Some k → Contains (variable_paths (paths_in_kind inside v.kind) m.text) (m.text ∷ texts rest)) → Contains (variable_paths (inside type.text) name) (name ∷ m.text ∷ texts rest)
      by None e g rec = absurd (cc)
      by (Some v) e g rec =
          let r = found_variable (effective_items concepts type.text) m.text v e in
          let there = variable_declares inside (effective_items concepts type.text) r.item v m.text (m.text ∷ texts rest) r.found.there r.is r.found.own (rec v g) in
          contains_there (name ∷ []) (map (λ p. name ∷ p) (inside type.text)) (name ∷ m.text ∷ texts rest)
          (contains_map (λ (p : PathNames). name ∷ p) (inside type.text) (m.text ∷ texts rest)
          (subst (λ (ps : List PathNames). Contains ps (m.text ∷ texts rest)) (sym (declared_again concepts sound.once sound.fit type.text)) there))

  -- a path that leads to a type is declared
  pub leading_is_declared : (items : List ItemTree) (names : List Named) (kind : VarKind) → LeadsToKind concepts items names kind → Contains (flat_map (item_paths inside) items) (texts names)
  leading_is_declared items names kind l =
      subst (λ (ns : List Named). Contains (flat_map (item_paths inside) items) (texts ns)) (sym l.is)
      (variable_declares inside items l.item l.variable l.first.text (l.first.text ∷ texts l.rest) l.there l.is_variable l.own
      (behind_known l.variable.kind kind l.rest l.along l.first.text))

  -- so is what is known inside of a component
  pub inside_is_declared : (type m : Named) (rest : List Named) (k : VarKind) → LeadsToKind concepts (effective_items concepts type.text) (m ∷ rest) k → Contains (inside type.text) (m.text ∷ texts rest)
  inside_is_declared type m rest k l =
      subst (λ (ps : List PathNames). Contains ps (m.text ∷ texts rest)) (sym (declared_again concepts sound.once sound.fit type.text))
      (leading_is_declared (effective_items concepts type.text) (m ∷ rest) k l)
