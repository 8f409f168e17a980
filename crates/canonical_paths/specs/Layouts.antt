-- The layouts of a concept and of all that it reaches through its components.
use Rattle.std.specs.Prelude.{◌≡◌, ◌<◌, ℕ, List, [], Contains, Ok, Option, Some, None, reverse, length, slice_get, ⊤}
use Rattle.utopist_syntax.specs.declared.item.VarKind.{VarKind}
use Rattle.utopist_syntax.specs.declared.item.VarKind.TheVariants.{Numeric, Of}
use Rattle.utopist_syntax.specs.FileTree.{ConceptTree}
use Rattle.concept_rules.specs.ConceptRules.{concepts_fault}
use Rattle.canonical_paths.specs.declared.slot.Slot.{Slot}
use Rattle.canonical_paths.specs.PathNames.{PathNames}
use Rattle.canonical_paths.specs.DeclaredPaths.{paths_in_kind, declared_paths}
use Rattle.canonical_paths.specs.Blocks.{IsBlock}
use Rattle.canonical_paths.specs.LaidOut.{LaidOut}
use Rattle.canonical_paths.specs.Components.{IsNamed, HasComponent, declared_in}
use Rattle.canonical_paths.specs.steps.AllLayouts.{HaveAllLayouts}

-- these are layouts of concepts of a file that keeps the rules, by the concepts' numbers: of the
-- asked one, and of all that are reached from it. `laid` is for the calls that read them
pub record AreLaidOut (all : List ConceptTree) (which : ℕ) (layouts : List LaidOut) : Type 0 where
  pub kept : concepts_fault [] all ≡ Ok tt
  pub reached : List ℕ
  pub asked : Contains reached which
  pub inside : (n m : ℕ) → Contains reached n → HasComponent all n m → Contains reached m
  pub earlier : (n m : ℕ) → Contains reached n → HasComponent all n m → m < n
  pub below : (n : ℕ) → Contains reached n → n < length layouts
  pub laid : HaveAllLayouts all reached layouts

-- so it is for each file and each asked concept of it with these layouts, and for the concept of
-- this number, if it is reached
abbrev pub ForEachReached :
    List LaidOut → ℕ → (List ConceptTree → List ℕ → ConceptTree → Type 0) → Type 0
ForEachReached layouts n P =
    (all : List ConceptTree) (asked : ℕ) (w : AreLaidOut all asked layouts) (c : ConceptTree)
    → Contains w.reached n → slice_get all n ≡ Some c → P all w.reached c

-- the concept of this number has this name, and is reached
pub record IsReachedConcept (all : List ConceptTree) (reached : List ℕ) (n : ℕ) (name : List ℕ)
    : Type 0 where
  pub named : IsNamed all n name
  pub among : Contains reached n

-- a component's type is the concept of this number, a number's type has none
abbrev pub IsTypeNumber : List ConceptTree → List ℕ → VarKind → Option ℕ → Type 0
IsTypeNumber all reached Numeric None = ⊤
IsTypeNumber all reached Numeric (Some m) = ⊥
IsTypeNumber all reached (Of type) None = ⊥
IsTypeNumber all reached (Of type) (Some m) = IsReachedConcept all reached m type.text

-- a path of this type is found among the declared paths of a concept: it and the paths inside of
-- it stand from the slot's number on, and the slot has the number of its type
pub record IsFoundAt
    (all : List ConceptTree) (reached : List ℕ) (c : ConceptTree) (path : PathNames)
    (kind : VarKind) (found : Option Slot) : Type 0 where
  pub slot : Slot
  pub is : found ≡ Some slot
  pub block :
      IsBlock (declared_in all c) slot.at path (paths_in_kind (declared_paths (reverse all)) kind)
  pub number : IsTypeNumber all reached kind slot.concept
