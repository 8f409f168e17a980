-- The types of paths by the texts of their names.
use Rattle.std.proofs.Common.{◌≡◌, ℕ, Bool, true, false, List, [], ◌∷◌, ◌++◌, Option, Some, None, refl, sym, ap, ◌∙◌, subst}
use Rattle.std.specs.Prelude.{if◌then◌else◌, option_and_then, Contains, ⊤}
use Rattle.std.specs.Str.{bytes_eq}
use Rattle.std.proofs.lemmas.Option.{same_Some}
use Rattle.std.proofs.lemmas.Slice.Eq.{bytes_eq-Decides}
use Rattle.utopist_syntax.specs.Named.{Named}
use Rattle.utopist_syntax.specs.declared.item.VarKind.{VarKind}
use Rattle.utopist_syntax.specs.declared.item.VarKind.TheVariants.{Numeric, Of}
use Rattle.utopist_syntax.specs.FileTree.{ItemTree, var, eq, rel, ConceptTree}
use Rattle.name_sets.specs.Paths.{texts}
use Rattle.concept_rules.specs.Declarations.{is_among, Variable, variable_of, variable}
use Rattle.concept_rules.specs.Kinds.{variable_in, kind_along, is_same_kind}
use Rattle.concept_rules.specs.Lineage.{concept_names, lineage, all_items, ancestors, effective_items}
use Rattle.canonical_paths.specs.PathNames.{PathNames}
use Rattle.canonical_paths.specs.steps.Fitting.{IsKnownKind, ConceptsFit}
use Rattle.canonical_paths.proofs.FittingItems.{found_variable}
use Rattle.canonical_paths.proofs.FittingConcepts.{is_other}
use Rattle.canonical_paths.proofs.KnownPaths.{AreKnown, all_known}

-- the type of a path that begins inside a type
abbrev pub type_of_path : List ConceptTree → VarKind → PathNames → Option VarKind
type_of_path concepts kind [] = Some kind
type_of_path concepts kind (s ∷ rest) = option_and_then (λ v. type_of_path concepts v.kind rest) (variable_in concepts kind s)

module _ (concepts : List ConceptTree) where
  -- it is that of the names
  pub same_types :
      (kind : VarKind) (names : List Named)
      → type_of_path concepts kind (texts names) ≡ kind_along concepts kind names
  same_types kind [] = refl
  same_types kind (s ∷ names) = by (variable_in concepts kind s.text) (λ v. same_types v.kind names)
    where
      by : (o : Option Variable) → ((v : Variable) → type_of_path concepts v.kind (texts names) ≡ kind_along concepts v.kind names) → option_and_then (λ v. type_of_path concepts v.kind (texts names)) o ≡ option_and_then (λ v. kind_along concepts v.kind names) o
      by None rec = refl
      by (Some v) rec = rec v

  -- a path behind one of this type
  pub type_behind :
      (kind k : VarKind) (p q : PathNames) → type_of_path concepts kind p ≡ Some k
      → type_of_path concepts kind (p ++ q) ≡ type_of_path concepts k q
  type_behind kind k [] q h = ap (λ (t : VarKind). type_of_path concepts t q) (same_Some kind k h)
  type_behind kind k (s ∷ p) q h = by (variable_in concepts kind s) h (λ v g. type_behind v.kind k p q g)
    where
      by : (o : Option Variable) → option_and_then (λ v. type_of_path concepts v.kind p) o ≡ Some k → ((v : Variable) → type_of_path concepts v.kind p ≡ Some k → type_of_path concepts v.kind (p ++ q) ≡ type_of_path concepts k q) → option_and_then (λ v. type_of_path concepts v.kind (p ++ q)) o ≡ type_of_path concepts k q
      by None g rec = absurd (cc)
      by (Some v) g rec = rec v g

  -- a numeric path inside a type is one inside each type of that name
  pub same_numeric :
      (k m : VarKind) (p : PathNames) → is_same_kind k m ≡ true
      → type_of_path concepts k p ≡ Some Numeric → type_of_path concepts m p ≡ Some Numeric
  same_numeric Numeric Numeric p e h = h
  same_numeric Numeric (Of o) p e h = absurd (cc)
  same_numeric (Of t) Numeric p e h = absurd (cc)
  same_numeric (Of t) (Of o) [] e h = absurd (cc)
  same_numeric (Of t) (Of o) (s ∷ p) e h =
      subst (λ (n : List ℕ). option_and_then (λ (v : Variable). type_of_path concepts v.kind p) (variable (effective_items concepts n) s) ≡ Some Numeric) ((bytes_eq-Decides t.text o.text).0 e) h

  -- the type of a variable of items whose types are known
  pub item_known :
      (items : List ItemTree) → AreKnown concepts items → (i : ItemTree) (v : Variable)
      → Contains items i → variable_of i ≡ Some v → IsKnownKind concepts v.kind
  item_known items known (var names kind binds) v there is =
      let same : record { kind = kind; binds = binds } ≡ v = same_Some (record { kind = kind; binds = binds }) v is in
      subst (λ (u : Variable). IsKnownKind concepts u.kind) same (known names kind binds there)
  item_known items known (eq left right) v there is = absurd (cc)
  item_known items known (rel n parts output body) v there is = absurd (cc)

-- one more concept has no part in the types of paths inside of others
module _ (c : ConceptTree) (earlier : List ConceptTree) (fresh : is_among c.name.text (concept_names earlier) ≡ false) (fit : ConceptsFit earlier) where
  -- the type is not this concept
  abbrev pub IsOther : VarKind → Type 0
  IsOther Numeric = ⊤
  IsOther (Of type) = bytes_eq c.name.text type.text ≡ false

  pub known_is_other : (kind : VarKind) → IsKnownKind earlier kind → IsOther kind
  known_is_other Numeric h = tt
  known_is_other (Of type) h = is_other c earlier fresh type.text h

  variable_before : (kind : VarKind) (name : List ℕ) → IsOther kind → variable_in (c ∷ earlier) kind name ≡ variable_in earlier kind name
  variable_before Numeric name h = refl
  variable_before (Of type) name h =
      ap (λ (t : Bool). variable (all_items (if t then ancestors earlier c.parents ++ c ∷ [] else lineage earlier type.text)) name) h

  variable_known : (kind : VarKind) (name : List ℕ) (v : Variable) → variable_in earlier kind name ≡ Some v → IsKnownKind earlier v.kind
  variable_known Numeric name v h = absurd (cc)
  variable_known (Of type) name v h =
      let r = found_variable (effective_items earlier type.text) name v h in
      item_known earlier (effective_items earlier type.text) (all_known earlier fit type.text) r.item v r.found.there r.is

  pub same_before :
      (kind : VarKind) (p : PathNames) → IsOther kind
      → type_of_path (c ∷ earlier) kind p ≡ type_of_path earlier kind p
  same_before kind [] h = refl
  same_before kind (s ∷ p) h =
      ap (option_and_then (λ (v : Variable). type_of_path (c ∷ earlier) v.kind p)) (variable_before kind s h)
      ∙ by (variable_in earlier kind s) refl (λ v k. same_before v.kind p k)
    where
      by : (o : Option Variable) → variable_in earlier kind s ≡ o → ((v : Variable) → IsOther v.kind → type_of_path (c ∷ earlier) v.kind p ≡ type_of_path earlier v.kind p) → option_and_then (λ v. type_of_path (c ∷ earlier) v.kind p) o ≡ option_and_then (λ v. type_of_path earlier v.kind p) o
      by None e rec = refl
      by (Some v) e rec = rec v (known_is_other v.kind (variable_known kind s v e))
