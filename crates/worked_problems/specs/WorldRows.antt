-- Worlds with the members of rows.
use Rattle.std.specs.Prelude.{◌↔◌, ◌<◌, ℕ, List, [], ◌∷◌, length, All, Contains}
use Rattle.statement_set.specs.Problem.{AreVars}
use Rattle.statement_set.specs.Forcing.{World}
use Rattle.worked_problems.specs.declared.world_fault.WorldFault.{WorldFault}
use Rattle.worked_problems.specs.declared.world_fault.WorldFault.TheVariants.{NoMem, TooManyWorlds, WideMember}

-- the world has the members of the list, and no other
abbrev pub HasJust : World → List ℕ → Type 0
HasJust w vs = (v : ℕ) → Contains w v ↔ Contains vs v

-- as many worlds as rows, each with the members of its row
abbrev pub AreWorldsOf : List World → List (List ℕ) → Type 0
AreWorldsOf [] [] = Unit {0}
AreWorldsOf [] (r ∷ rs) = ⊥
AreWorldsOf (w ∷ ws) [] = ⊥
AreWorldsOf (w ∷ ws) (r ∷ rs) = HasJust w r × AreWorldsOf ws rs

-- why rows are no worlds; want of memory says nothing
abbrev pub IsWorldFaultOf : WorldFault → List (List ℕ) → Type 0
IsWorldFaultOf NoMem rows = Unit {0}
IsWorldFaultOf TooManyWorlds rows = 4294967295 < length rows
IsWorldFaultOf WideMember rows = ¬ All (AreVars 1024) rows
