-- How far a file was checked, and what is known of its extent.
use Rattle.std.specs.Prelude.{◌≡◌, ◌<◌, ◌↔◌, ℕ, suc, true, if◌then◌else◌, nat_lt, nat_eq, List, [], ◌∷◌, map, length, take, reverse, get_or, slice_get, All, Contains, Option, Some, None, option_map, option_and_then, IsTrue}
use Rattle.std.specs.List.{flat_map}
use Rattle.std.specs.Option.{option_map_or}
use Rattle.utopist_syntax.specs.FileTree.{ItemTree, ConceptTree, item_tree, concept_tree}
use Rattle.utopist_syntax.specs.declared.item.Item.{Item}
use Rattle.utopist_syntax.specs.declared.concept.Concept.{Concept}
use Rattle.concept_rules.specs.Paths.{first_of}
use Rattle.concept_rules.specs.Declarations.{is_among, declared, is_declared, variable_of}
use Rattle.concept_rules.specs.declared.declarations.Declaration.{Declaration}
use Rattle.concept_rules.specs.Lineage.{concept_names, lineage}
use Rattle.concept_rules.specs.steps.DeclaredNames.{Declared, item_in, bound_in}
use Rattle.concept_rules.specs.Lineages.{Lines}
use Rattle.concept_rules.specs.steps.Variables.{Outline, bound_by}

-- the concepts of a file, how many were checked, the latest of these first,
-- and how many items of the next one were checked
pub record Extent : Type 0 where
  pub all : List ConceptTree
  pub concept : ℕ
  pub before : List ConceptTree
  pub items : ℕ

-- no concept
abbrev pub no_concept : ConceptTree
no_concept = record { name = first_of []; parents = []; items = [] }

-- the concept of this number
abbrev pub concept_of : List ConceptTree → ℕ → ConceptTree
concept_of all n = get_or all n no_concept

-- its own items
abbrev pub own_items : List ConceptTree → ℕ → List ItemTree
own_items all n = (concept_of all n).items

-- those of them that were checked
abbrev pub checked_items : Extent → ℕ → List ItemTree
checked_items f n =
    if nat_lt n f.concept then own_items f.all n
    else (if nat_eq n f.concept then take f.items (own_items f.all n) else [])

-- the place of the first of these items that declares this name
abbrev pub item_place : List ItemTree → List ℕ → Option ℕ
item_place [] name = None
item_place (i ∷ items) name =
    if is_among name (declared i) then Some 0 else option_map suc (item_place items name)

-- these are the names that were declared
abbrev pub IsIndex : Extent → Declared → Type 0
IsIndex f d = (name : List ℕ) (n : ℕ) → item_in d name n ≡ item_place (checked_items f n) name

-- these are the left paths of the bindings of each item
abbrev pub AreBound : Extent → Declared → Type 0
AreBound f d =
    (n j : ℕ) → bound_in d n j ≡ option_map_or bound_by (slice_get (checked_items f n) j) []

-- of these concepts, which have these items, no two declare one name
abbrev pub IsApart : (ℕ → List ItemTree) → List ℕ → Type 0
IsApart items line =
    (name : List ℕ) (n m : ℕ) → Contains line n → Contains line m
    → is_declared (items n) name ≡ true → is_declared (items m) name ≡ true → n ≡ m

-- these are the numbers of these concepts, which are among so many first ones, and of which no two declare one name
pub record IsLine (all : List ConceptTree) (count : ℕ) (line : List ℕ) (cs : List ConceptTree)
    : Type 0 where
  pub concepts : cs ≡ map (concept_of all) line
  pub below : All (λ n. n < count) line
  pub apart : IsApart (own_items all) line

-- these are the lines of so many first concepts, of which the latest stands first
pub record AreLines (all : List ConceptTree) (count : ℕ) (before : List ConceptTree) (l : Lines)
    : Type 0 where
  pub long : length before ≡ count
  pub even : length l.names ≡ length l.lines
  pub order : l.names ≡ reverse (concept_names before)
  pub known :
      (name : List ℕ) → IsTrue (is_among name (concept_names before)) ↔ Contains l.names name
  pub names : (n : ℕ) → n < count → Contains l.names (concept_of all n).name.text
  pub once :
      (n m : ℕ) → n < count → m < count
      → (concept_of all n).name.text ≡ (concept_of all m).name.text → n ≡ m
  pub lines :
      (i : ℕ) (name : List ℕ) (line : List ℕ)
      → slice_get l.names i ≡ Some name → slice_get l.lines i ≡ Some line
      → IsLine all count line (lineage before name)

-- the concepts of the file, and what was found in its first part
pub record Reached (f : Extent) (concepts : List Concept) (l : Lines) (d : Declared) : Type 0 where
  pub all : f.all ≡ map concept_tree concepts
  pub lines : AreLines f.all f.concept f.before l
  pub index : IsIndex f d
  pub bound : AreBound f d

-- the items before this point are those of these concepts, no two of which declare one name
pub record IsHere (f : Extent) (line : List ℕ) (before : List ItemTree) : Type 0 where
  pub items : before ≡ flat_map (checked_items f) line
  pub apart : IsApart (checked_items f) line

-- the item at a place of a concept of the file
abbrev pub item_standing : List Concept → ℕ → ℕ → Option Item
item_standing concepts n j = option_and_then (λ c. slice_get c.items j) (slice_get concepts n)

-- what is known of the variables of the item of a declaration, if it has variables
abbrev pub outline_standing : List Concept → Declared → Declaration → Option Outline
outline_standing concepts declared d =
    option_map (λ v. record { kind = v.kind; bound = bound_in declared d.concept d.item })
    (option_and_then variable_of (option_map item_tree (item_standing concepts d.concept d.item)))

-- the extent before an item of a concept, behind these concepts
abbrev pub extent : List ConceptTree → ℕ → List ConceptTree → ℕ → Extent
extent all n before m = record { all = all; concept = n; before = before; items = m }

-- the extent behind the items of a concept, of whose line no two concepts declare one name
pub record IsAfter
    (all : List ConceptTree) (n : ℕ) (before : List ConceptTree) (line : List ℕ)
    (concepts : List Concept) (l : Lines) (d : Declared)
    : Type 0 where
  pub now : Reached (extent all n before (length (own_items all n))) concepts l d
  pub apart : IsApart (checked_items (extent all n before (length (own_items all n)))) line
