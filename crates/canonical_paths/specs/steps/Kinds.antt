-- The types of the variables of a layout, by their numbers.
use Rattle.std.specs.Prelude.{◌≡◌, ◌<◌, ℕ, List, Option, Some, None, IfSome, length, slice_get, ⊤}
use Rattle.utopist_syntax.specs.declared.item.VarKind.{VarKind}
use Rattle.utopist_syntax.specs.declared.item.VarKind.TheVariants.{Numeric, Of}
use Rattle.utopist_syntax.specs.FileTree.{ItemTree, ConceptTree}
use Rattle.concept_rules.specs.Declarations.{Variable, variable}
use Rattle.concept_rules.specs.Lineage.{effective_items}
use Rattle.canonical_paths.specs.declared.slot.Slot.{Slot}
use Rattle.canonical_paths.specs.LaidOut.{LaidOut}
use Rattle.canonical_paths.specs.steps.Layouts.{HasSlot}

-- a component's type has this number by the names of concepts, a number's type has none
abbrev pub IsKindNamed : List (List ℕ) → VarKind → Option ℕ → Type 0
IsKindNamed names Numeric None = ⊤
IsKindNamed names Numeric (Some c) = ⊥
IsKindNamed names (Of type) None = ⊥
IsKindNamed names (Of type) (Some c) = slice_get names c ≡ Some type.text

-- so it is, and the number is below this one
pub record IsKindBelow (names : List (List ℕ)) (count : ℕ) (kind : VarKind) (concept : Option ℕ)
    : Type 0 where
  pub named : IsKindNamed names kind concept
  pub below : IfSome concept (λ c. c < count)

-- the variable of this name has a type of this number
pub record HasKind
    (names : List (List ℕ)) (count : ℕ) (items : List ItemTree) (name : List ℕ)
    (concept : Option ℕ) : Type 0 where
  pub own : Variable
  pub is : variable items name ≡ Some own
  pub number : IsKindBelow names count own.kind concept

-- so it is for each slot of a layout
abbrev pub HaveKinds : List (List ℕ) → ℕ → List ItemTree → LaidOut → Type 0
HaveKinds names count items l =
    (name : List ℕ) (s : Slot) → HasSlot l name s → HasKind names count items name s.concept

-- and for the layouts of concepts
abbrev pub AreTyped : List (List ℕ) → List ConceptTree → List LaidOut → Type 0
AreTyped names concepts layouts =
    (c : ℕ) (l : LaidOut) (name : List ℕ)
    → slice_get layouts c ≡ Some l → slice_get names c ≡ Some name
    → HaveKinds names (length layouts) (effective_items concepts name) l

-- the names of concepts, the concepts, of which the latest stands first, and items of one more
pub record Types : Type 0 where
  pub names : List (List ℕ)
  pub concepts : List ConceptTree
  pub items : List ItemTree

-- their variables have these layouts
pub record AreOfTypes (t : Types) (layouts : List LaidOut) (current : LaidOut) : Type 0 where
  pub concepts : AreTyped t.names t.concepts layouts
  pub so_far : HaveKinds t.names (length layouts) t.items current

-- so it is for all concepts and items whose variables these layouts have
abbrev pub ForEachTypes : List LaidOut → LaidOut → (Types → Type 0) → Type 0
ForEachTypes layouts current P = (t : Types) → AreOfTypes t layouts current → P t
