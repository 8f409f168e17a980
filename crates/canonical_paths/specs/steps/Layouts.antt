-- The variables of concepts, each with the place of its path among the declared paths.
use Rattle.std.specs.Prelude.{◌≡◌, ℕ, List, [], ◌∷◌, ◌++◌, Contains, Option, Some, None, length, slice_get, unwrap_or}
use Rattle.std.specs.Option.{option_map_or}
use Rattle.canonical_paths.specs.declared.slot.Slot.{Slot}
use Rattle.canonical_paths.specs.declared.tables.Alias.{Alias}
use Rattle.canonical_paths.specs.PathNames.{PathNames}
use Rattle.canonical_paths.specs.LaidOut.{LaidOut}
use Rattle.canonical_paths.specs.steps.Tables.{component_entries}
use Rattle.canonical_paths.specs.Blocks.{IsBlock}

-- no variable
abbrev pub no_variables : LaidOut
no_variables = record { names = []; slots = []; table = [] }

-- the paths inside of a variable, where those of each concept are given; a number has none
abbrev pub inner_paths : List (List PathNames) → Option ℕ → List PathNames
inner_paths concepts None = []
inner_paths concepts (Some c) = unwrap_or (slice_get concepts c) []

-- the table of the paths inside of a variable, where the layout of each concept is given
abbrev pub inner_table : List LaidOut → Option ℕ → List ℕ
inner_table layouts None = []
inner_table layouts (Some c) = option_map_or (λ l. l.table) (slice_get layouts c) []

-- a variable of this name has this slot
pub record HasSlot (l : LaidOut) (name : List ℕ) (s : Slot) : Type 0 where
  pub place : ℕ
  pub name_is : slice_get l.names place ≡ Some name
  pub slot_is : slice_get l.slots place ≡ Some s

-- the path begins with one of these names
pub record BeginsWithOne (names : List (List ℕ)) (q : PathNames) : Type 0 where
  pub first : List ℕ
  pub rest : PathNames
  pub is : q ≡ first ∷ rest
  pub among : Contains names first

-- one more variable, behind the others: what of it is bound, and the table of the paths
-- inside of it, are given
abbrev pub with_variable : LaidOut → List ℕ → Option ℕ → List Alias → List ℕ → LaidOut
with_variable l name concept aliases inside = record {
  names = l.names ++ name ∷ [];
  slots = l.slots ++ record { at = length l.table; concept = concept } ∷ [];
  table = l.table ++ component_entries l.table aliases inside;
}

-- so it is here, and no other variable has the name
pub record HasOneMore
    (old new : LaidOut) (name : List ℕ) (concept : Option ℕ) (aliases : List Alias)
    (inside : List ℕ) : Type 0 where
  pub fresh : ¬ Contains old.names name
  pub is : new ≡ with_variable old name concept aliases inside

-- each variable stands where its slot says, no path begins with another name, and each has an entry
pub record IsLayout
    (concepts : List (List PathNames)) (paths : List PathNames) (l : LaidOut) : Type 0 where
  pub count : length l.names ≡ length l.slots
  pub size : length l.table ≡ length paths
  pub begin : (n : ℕ) (q : PathNames) → slice_get paths n ≡ Some q → BeginsWithOne l.names q
  pub each :
      (name : List ℕ) (s : Slot)
      → HasSlot l name s → IsBlock paths s.at (name ∷ []) (inner_paths concepts s.concept)

-- so do those of each concept
abbrev pub AreLayouts : List (List PathNames) → List LaidOut → Type 0
AreLayouts concepts layouts =
    (c : ℕ) (l : LaidOut)
    → slice_get layouts c ≡ Some l → IsLayout concepts (unwrap_or (slice_get concepts c) []) l

-- there are paths of which these are the layouts
abbrev pub AreSomeLayouts : List LaidOut → Type 0
AreSomeLayouts layouts = (concepts : List (List PathNames)) × AreLayouts concepts layouts
