-- The entries of one more component of a table, and what its bindings bind by numbers.
use Rattle.std.specs.Prelude.{◌≡◌, ℕ, suc, ◌+◌, ◌-◌, ◌≤◌, if◌then◌else◌, List, [], ◌∷◌, ◌++◌, Bool, true, ◌&&◌, drop, ⊤, nat_le, nat_lt, Some, map, fold, length, slice_get, slice_index}
use Rattle.utopist_syntax.specs.declared.item.Bind.{Bind}
use Rattle.name_sets.specs.Paths.{is_prefix}
use Rattle.canonical_paths.specs.declared.tables.Alias.{Alias}
use Rattle.canonical_paths.specs.PathNames.{PathNames, names_in}

-- the number is that of a path that begins with what is bound
abbrev pub is_within : Alias → ℕ → Bool
is_within a n = nat_le a.left n && nat_lt n (a.left + a.size)

-- where an alias moves the path of this number inside a component
abbrev pub move_by : List ℕ → ℕ → ℕ → Alias → ℕ
move_by table n m a = if is_within a n then slice_index table (a.right + (n - a.left)) else m

-- where it is among the paths of the concept, in which the component's paths begin at `start`
abbrev pub moved_to : List ℕ → List Alias → ℕ → ℕ → ℕ
moved_to table aliases start n = fold (move_by table n) (start + n) aliases

-- the entries of a component behind a table: its own, and those of the paths inside of it,
-- whose table is given
abbrev pub component_entries : List ℕ → List Alias → List ℕ → List ℕ
component_entries table aliases inside =
    length table ∷ map (moved_to table aliases (suc (length table))) inside

-- an alias lies inside the component, and stands for what has an entry
pub record IsAliasIn (inside table : ℕ) (a : Alias) : Type 0 where
  pub left : a.left + a.size ≤ inside
  pub right : a.right + a.size ≤ table

-- so many paths from `left` on are those that begin with a binding's left path, and those
-- from `right` on are what stands in their place
pub record StandsFor (paths inner : List PathNames) (b : Bind) (a : Alias) : Type 0 where
  pub within :
      (n : ℕ) (q : PathNames)
      → slice_get inner n ≡ Some q → is_within a n ≡ is_prefix (names_in b.left) q
  pub right :
      (n : ℕ) (q : PathNames)
      → slice_get inner n ≡ Some q → is_within a n ≡ true
      → slice_get paths (a.right + (n - a.left))
      ≡ Some (names_in b.right ++ drop (length (names_in b.left)) q)

-- one for each binding, in order
abbrev pub AllStand : List PathNames → List PathNames → List Bind → List Alias → Type 0
AllStand paths inner [] [] = ⊤
AllStand paths inner [] (a ∷ aliases) = ⊥
AllStand paths inner (b ∷ binds) [] = ⊥
AllStand paths inner (b ∷ binds) (a ∷ aliases) =
    StandsFor paths inner b a × AllStand paths inner binds aliases
