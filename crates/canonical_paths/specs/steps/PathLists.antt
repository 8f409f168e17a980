-- What layouts stand for, and one more variable of a concept.
use Rattle.std.specs.Prelude.{◌≤◌, ◌^◌, ◌≡◌, ◌<◌, ◌++◌, ℕ, List, Option, Some, All, length, slice_get}
use Rattle.utopist_syntax.specs.declared.item.Bind.{Bind}
use Rattle.canonical_paths.specs.declared.tables.Alias.{Alias}
use Rattle.canonical_paths.specs.declared.slot.Slot.{Slot}
use Rattle.canonical_paths.specs.PathNames.{PathNames}
use Rattle.canonical_paths.specs.DeclaredPaths.{variable_paths}
use Rattle.canonical_paths.specs.Blocks.{IsBlock}
use Rattle.canonical_paths.specs.steps.Tables.{StandsFor, AllStand, IsAliasIn}
use Rattle.canonical_paths.specs.LaidOut.{LaidOut}
use Rattle.canonical_paths.specs.steps.Layouts.{IsLayout, AreLayouts, inner_paths, inner_table, HasOneMore}

-- the declared paths of each concept, and those so far of one more
pub record PathLists : Type 0 where
  pub concepts : List (List PathNames)
  pub paths : List PathNames

-- these layouts are theirs
pub record HaveLayouts (w : PathLists) (layouts : List LaidOut) (current : LaidOut) : Type 0 where
  pub concepts : AreLayouts w.concepts layouts
  pub so_far : IsLayout w.concepts w.paths current

-- there are such lists
abbrev pub HaveLists : List LaidOut → LaidOut → Type 0
HaveLists layouts current = (w : PathLists) × HaveLayouts w layouts current

-- so it is for all lists of paths that these layouts have
abbrev pub ForEachLists : List LaidOut → LaidOut → (PathLists → Type 0) → Type 0
ForEachLists layouts current P = (w : PathLists) → HaveLayouts w layouts current → P w

-- no entry leads out of its table
abbrev pub AreClosed : List LaidOut → Type 0
AreClosed layouts =
    (c : ℕ) (l : LaidOut) → slice_get layouts c ≡ Some l → All (λ n. n < length l.table) l.table

-- each concept has a layout, and numbers of paths have 32 bits
pub record IsComplete (w : PathLists) (layouts : List LaidOut) : Type 0 where
  pub concepts : length w.concepts ≤ length layouts
  pub few : length w.paths ≤ 2 ^ 32

-- the path, and those inside of it, stand from the number of this slot on
abbrev pub IsSlotOf : PathLists → PathNames → Slot → Type 0
IsSlotOf w path s = IsBlock w.paths s.at path (inner_paths w.concepts s.concept)

-- what a binding of a component binds, by numbers, where these paths are inside of the component
pub record IsAliasOf
    (w : PathLists) (inside : List PathNames) (b : Bind) (a : Alias) : Type 0 where
  pub stands : StandsFor w.paths inside b a
  pub within : IsAliasIn (length inside) (length w.paths) a

-- so it is for all bindings, in order
pub record AreAliasesOf
    (w : PathLists) (inside : List PathNames) (binds : List Bind) (aliases : List Alias)
    : Type 0 where
  pub stand : AllStand w.paths inside binds aliases
  pub within : All (IsAliasIn (length inside) (length w.paths)) aliases

-- one more variable, with what its bindings bind
pub record HasGrown
    (w : PathLists) (layouts : List LaidOut) (old new : LaidOut) (name : List ℕ)
    (concept : Option ℕ) (binds : List Bind) : Type 0 where
  pub aliases : List Alias
  pub stand : AllStand w.paths (inner_paths w.concepts concept) binds aliases
  pub more : HasOneMore old new name concept aliases (inner_table layouts concept)

-- the paths with those of one more variable
abbrev pub paths_with : PathLists → List ℕ → Option ℕ → List PathNames
paths_with w name concept = w.paths ++ variable_paths (inner_paths w.concepts concept) name
