-- Which concepts are reached from one, by marks.
use Rattle.std.specs.Prelude.{◌≡◌, ◌≤◌, ◌<◌, ◌+◌, ℕ, suc, List, [], ◌∷◌, ◌⊎◌, Bool, true, false, Contains, Some, length, slice_get}
use Rattle.utopist_syntax.specs.FileTree.{ItemTree, ConceptTree}
use Rattle.canonical_paths.specs.Components.{HasFewPaths, DeclaresComponent, HasComponent}

-- the places of marks, where the first has this one
abbrev pub marked_from : ℕ → List Bool → List ℕ
marked_from n [] = []
marked_from n (true ∷ marks) = n ∷ marked_from (suc n) marks
marked_from n (false ∷ marks) = marked_from (suc n) marks

-- the numbers of what is marked
abbrev pub marked : List Bool → List ℕ
marked marks = marked_from 0 marks

-- this one is marked
abbrev pub IsMarked : List Bool → ℕ → Type 0
IsMarked marks n = slice_get marks n ≡ Some true

-- one of these items declares a component of this type
pub record DeclareComponent (items : List ItemTree) (type : List ℕ) : Type 0 where
  pub item : ItemTree
  pub there : Contains items item
  pub declares : DeclaresComponent item type

-- the type of this number is that of a component of these items
pub record IsTypeOf (names : List (List ℕ)) (items : List ItemTree) (n : ℕ) : Type 0 where
  pub type : List ℕ
  pub is : slice_get names n ≡ Some type
  pub declare : DeclareComponent items type

-- what is so is marked too, and nothing else is
pub record MarksMore (P : ℕ → Type 0) (old new : List Bool) : Type 0 where
  pub count : length new ≡ length old
  pub keeps : (n : ℕ) → IsMarked old n → IsMarked new n
  pub marks : (n : ℕ) → n < length old → P n → IsMarked new n
  pub only : (n : ℕ) → IsMarked new n → IsMarked old n ⊎ P n

-- this one alone is marked, and it is the last
pub record IsOnlyMark (asked : ℕ) (marks : List Bool) : Type 0 where
  pub count : length marks ≡ suc asked
  pub is : IsMarked marks asked
  pub only : (n : ℕ) → IsMarked marks n → n ≡ asked

-- a concept up to the asked one is marked if it has to be laid out, as far as the components of
-- those from `next` on go
pub record AreMarkedFrom
    (all : List ConceptTree) (last next : ℕ) (marks : List Bool) : Type 0 where
  pub within : last < length all
  pub count : length marks ≡ suc last
  pub asked : IsMarked marks last
  pub inside :
      (n m : ℕ) → next ≤ n → IsMarked marks n → HasComponent all n m → IsMarked marks m
  pub few : (n : ℕ) → IsMarked marks n → HasFewPaths all n

-- all of them are
abbrev pub AreMarked : List ConceptTree → ℕ → List Bool → Type 0
AreMarked all asked marks = AreMarkedFrom all asked 0 marks

-- so it is for some asked concept
abbrev pub AreSomeMarked : List ConceptTree → List Bool → Type 0
AreSomeMarked all marks = (asked : ℕ) × AreMarked all asked marks
