-- The names of a path with dots.
use Rattle.std.specs.Prelude.{◌≡◌, ℕ, List, [], ◌∷◌, ◌++◌, Contains, true}
use Rattle.utopist_syntax.specs.FileTree.{ItemTree, ConceptTree}
use Rattle.concept_rules.specs.Declarations.{is_among, declared}
use Rattle.canonical_paths.specs.PathNames.{PathNames}

-- the names with a dot between each two
abbrev pub dotted : PathNames → List ℕ
dotted [] = []
dotted (n ∷ []) = n
dotted (n ∷ m ∷ p) = n ++ 46 ∷ dotted (m ∷ p)

-- the text has no dot
abbrev pub HasNoDot : List ℕ → Type 0
HasNoDot text = ¬ Contains text 46

-- no name that these concepts declare has one
abbrev pub NamesHaveNoDot : List ConceptTree → Type 0
NamesHaveNoDot concepts =
    (c : ConceptTree) (i : ItemTree) (name : List ℕ)
    → Contains concepts c → Contains c.items i → is_among name (declared i) ≡ true → HasNoDot name
