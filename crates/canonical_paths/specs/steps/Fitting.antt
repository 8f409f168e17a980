-- Items whose names differ, whose types are known, and whose bindings join paths of one type.
use Rattle.std.specs.Prelude.{◌≡◌, ℕ, List, [], ◌∷◌, ◌++◌, Bool, true, false, Some, Contains, Option, ⊤}
use Rattle.utopist_syntax.specs.Named.{Named}
use Rattle.utopist_syntax.specs.declared.item.Bind.{Bind}
use Rattle.utopist_syntax.specs.declared.item.VarKind.{VarKind}
use Rattle.utopist_syntax.specs.declared.item.VarKind.TheVariants.{Numeric, Of}
use Rattle.utopist_syntax.specs.FileTree.{ItemTree, var, eq, rel, ConceptTree}
use Rattle.concept_rules.specs.Declarations.{is_among, declared, Variable, variable_of}
use Rattle.concept_rules.specs.Lineage.{concept_names}
use Rattle.concept_rules.specs.Kinds.{kind_along, is_same_kind}
use Rattle.canonical_paths.specs.Canonical.{items_behind}

-- one of the items declares the first name, and the path behind it leads to this type
pub record LeadsToKind
    (concepts : List ConceptTree) (items : List ItemTree) (names : List Named) (kind : VarKind)
    : Type 0 where
  pub first : Named
  pub rest : List Named
  pub is : names ≡ first ∷ rest
  pub item : ItemTree
  pub there : Contains items item
  pub own : is_among first.text (declared item) ≡ true
  pub variable : Variable
  pub is_variable : variable_of item ≡ Some variable
  pub along : kind_along concepts variable.kind rest ≡ Some kind

-- both sides of a binding of variables of this type are known, and have one type
pub record Joins
    (concepts : List ConceptTree) (before : List ItemTree) (kind : VarKind) (b : Bind)
    : Type 0 where
  pub left : VarKind
  pub right : VarKind
  pub left_is : kind_along concepts kind b.left.parts ≡ Some left
  pub right_is : LeadsToKind concepts before b.right.parts right
  pub same : is_same_kind left right ≡ true

-- so it is for each of these bindings
abbrev pub AllJoin : List ConceptTree → List ItemTree → VarKind → List Bind → Type 0
AllJoin concepts before kind [] = ⊤
AllJoin concepts before kind (b ∷ binds) =
    Joins concepts before kind b × AllJoin concepts before kind binds

-- a type is a number, or one of these concepts
abbrev pub IsKnownKind : List ConceptTree → VarKind → Type 0
IsKnownKind concepts Numeric = ⊤
IsKnownKind concepts (Of type) = is_among type.text (concept_names concepts) ≡ true

-- none of the names stands among these, or among those before it
abbrev pub AreOnce : List (List ℕ) → List Named → Type 0
AreOnce others [] = ⊤
AreOnce others (n ∷ names) =
    (is_among n.text others ≡ false) × AreOnce (others ++ n.text ∷ []) names

-- variables behind these items
pub record VariablesFit
    (concepts : List ConceptTree) (before : List ItemTree) (names : List Named) (kind : VarKind)
    (binds : List Bind) : Type 0 where
  pub once : AreOnce [] names
  pub known : IsKnownKind concepts kind
  pub join : AllJoin concepts before kind binds

-- an item behind these
abbrev pub Fits : List ConceptTree → List ItemTree → ItemTree → Type 0
Fits concepts before (var names kind binds) = VariablesFit concepts before names kind binds
Fits concepts before (eq left right) = ⊤
Fits concepts before (rel name parts output body) = ⊤

-- items, one behind the other
abbrev pub AllFit : List ConceptTree → List ItemTree → List ItemTree → Type 0
AllFit concepts before [] = ⊤
AllFit concepts before (i ∷ items) =
    Fits concepts before i × AllFit concepts (before ++ i ∷ []) items

-- so do the effective items of each concept; the latest concept stands first
abbrev pub ConceptsFit : List ConceptTree → Type 0
ConceptsFit [] = ⊤
ConceptsFit (c ∷ earlier) = AllFit earlier [] (items_behind earlier c) × ConceptsFit earlier

-- no two concepts have one name
abbrev pub AreNamedOnce : List ConceptTree → Type 0
AreNamedOnce [] = ⊤
AreNamedOnce (c ∷ earlier) =
    (is_among c.name.text (concept_names earlier) ≡ false) × AreNamedOnce earlier

-- concepts whose names differ, and whose items fit
pub record AreSound (concepts : List ConceptTree) : Type 0 where
  pub once : AreNamedOnce concepts
  pub fit : ConceptsFit concepts
