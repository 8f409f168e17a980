-- A variable as one more of its concept, whose items stand from the latest.
use Rattle.std.specs.Prelude.{◌≡◌, ℕ, List, [], ◌∷◌, ◌++◌, true, false, Some, ⊤}
use Rattle.utopist_syntax.specs.declared.item.Bind.{Bind}
use Rattle.utopist_syntax.specs.FileTree.{ItemTree}
use Rattle.concept_rules.specs.Declarations.{is_among, declared, is_declared, Variable, variable_of}
use Rattle.canonical_paths.specs.PathNames.{PathNames, names_in}

-- the first name of a binding's right path is declared by none of these items
pub record LeadsPast (items : List ItemTree) (b : Bind) : Type 0 where
  pub first : List ℕ
  pub rest : PathNames
  pub is : names_in b.right ≡ first ∷ rest
  pub earlier : is_declared items first ≡ false

-- so it is for all of these bindings
abbrev pub AllLeadPast : List ItemTree → List Bind → Type 0
AllLeadPast items [] = ⊤
AllLeadPast items (b ∷ binds) = LeadsPast items b × AllLeadPast items binds

-- item i declares the variable, no later one does, and its bindings lead to earlier items
pub record IsAdded
    (later : List ItemTree) (i : ItemTree) (name : List ℕ) (v : Variable) : Type 0 where
  pub new : is_declared later name ≡ false
  pub declared : is_among name (declared i) ≡ true
  pub is : variable_of i ≡ Some v
  pub lead : AllLeadPast (later ++ i ∷ []) v.binds
