-- A concept whose effective items are taken one after another.
use Rattle.std.specs.Prelude.{◌≡◌, ℕ, List, [], ◌∷◌, ◌++◌, Contains, Option, Some, None, reverse, slice_get, ⊤, true}
use Rattle.std.specs.List.{flat_map}
use Rattle.std.specs.Option.{option_map_or}
use Rattle.utopist_syntax.specs.Named.{Named}
use Rattle.utopist_syntax.specs.declared.item.Bind.{Bind}
use Rattle.utopist_syntax.specs.declared.item.VarKind.{VarKind}
use Rattle.utopist_syntax.specs.declared.item.VarKind.TheVariants.{Numeric, Of}
use Rattle.utopist_syntax.specs.FileTree.{ItemTree, ConceptTree}
use Rattle.concept_rules.specs.Declarations.{is_among, declared, Variable, variable_of}
use Rattle.canonical_paths.specs.PathNames.{PathNames}
use Rattle.canonical_paths.specs.Canonical.{items_behind, canonical_path, canonical_behind}
use Rattle.canonical_paths.specs.DeclaredPaths.{variable_paths, item_paths, declared_paths}
use Rattle.canonical_paths.specs.Scoped.{AreScoped}
use Rattle.canonical_paths.specs.Tables.{IsTable}
use Rattle.canonical_paths.specs.LaidOut.{LaidOut}
use Rattle.canonical_paths.specs.steps.Layouts.{IsLayout, AreLayouts, inner_paths}
use Rattle.canonical_paths.specs.steps.Kinds.{IsKindNamed}

-- the concepts before it, of which the latest stands first, the declared paths of concepts by
-- their numbers, and its effective items in order
pub record Setting : Type 0 where
  pub earlier : List ConceptTree
  pub lists : List (List PathNames)
  pub items : List ItemTree

-- the layout of this number is that of the concept of this name
pub record IsNumberOf (s : Setting) (layouts : List LaidOut) (name : List ℕ) (c : ℕ) : Type 0 where
  pub paths : inner_paths s.lists (Some c) ≡ declared_paths s.earlier name
  pub table :
      (l : LaidOut)
      → slice_get layouts c ≡ Some l
      → IsTable (canonical_path s.earlier name) (declared_paths s.earlier name) l.table

-- a component's type has this number, a number's type has none
abbrev pub IsKindNumber : Setting → List LaidOut → VarKind → Option ℕ → Type 0
IsKindNumber s layouts Numeric None = ⊤
IsKindNumber s layouts Numeric (Some c) = ⊥
IsKindNumber s layouts (Of type) None = ⊥
IsKindNumber s layouts (Of type) (Some c) = IsNumberOf s layouts type.text c

-- its items are scoped, layouts are those of the lists, and the types of its variables have the
-- numbers of their names among these
pub record IsLaidOutIn (s : Setting) (names : List (List ℕ)) (layouts : List LaidOut) : Type 0 where
  pub scoped : AreScoped (reverse s.items)
  pub lists : AreLayouts s.lists layouts
  pub kinds :
      (i : ItemTree) (v : Variable) (name : List ℕ) (concept : Option ℕ)
      → Contains s.items i → variable_of i ≡ Some v → is_among name (declared i) ≡ true
      → IsKindNamed names v.kind concept → IsKindNumber s layouts v.kind concept

-- an item of it, behind these, declares variables of these names and with these bindings, whose
-- type has this number
pub record Declare
    (s : Setting) (names : List (List ℕ)) (variables : List Named) (concept : Option ℕ)
    (binds : List Bind) : Type 0 where
  pub before : List ItemTree
  pub item : ItemTree
  pub rest : List ItemTree
  pub items : s.items ≡ before ++ item ∷ rest
  pub kind : VarKind
  pub is : variable_of item ≡ Some (record { kind = kind; binds = binds })
  pub own : (n : Named) → Contains variables n → is_among n.text (declared item) ≡ true
  pub number : IsKindNamed names kind concept

-- a layout is that of these paths, and its table names the canonical path of each
pub record Covers (s : Setting) (paths : List PathNames) (l : LaidOut) : Type 0 where
  pub layout : IsLayout s.lists paths l
  pub table : IsTable (canonical_behind (canonical_path s.earlier) (reverse s.items)) paths l.table

-- the paths of variables of a type that has this number
abbrev pub paths_of_variables : Setting → Option ℕ → List Named → List PathNames
paths_of_variables s concept variables =
    flat_map (λ n. variable_paths (inner_paths s.lists concept) n.text) variables

-- the paths of items
abbrev pub paths_of_items : Setting → List ItemTree → List PathNames
paths_of_items s items = flat_map (item_paths (declared_paths s.earlier)) items

-- the items of concepts with these numbers, one concept behind the other
abbrev pub items_of_line : List ConceptTree → List ℕ → List ItemTree
items_of_line all line =
    flat_map (λ n. option_map_or (λ c. c.items) (slice_get all n) []) line

-- the setting of a concept behind these
abbrev pub setting_of : List ConceptTree → ConceptTree → List (List PathNames) → Setting
setting_of earlier c lists =
    record { earlier = earlier; lists = lists; items = items_behind earlier c }

-- a layout covers all its items
abbrev pub CoversConcept :
    List ConceptTree → ConceptTree → List (List PathNames) → LaidOut → Type 0
CoversConcept earlier c lists l =
    Covers (setting_of earlier c lists)
    (paths_of_items (setting_of earlier c lists) (items_behind earlier c)) l
