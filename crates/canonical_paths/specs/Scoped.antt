-- Items of which each declares new names, and whose bindings lead to earlier ones; the latest
-- stands first.
use Rattle.std.specs.Prelude.{◌≡◌, ℕ, List, [], ◌∷◌, true, false, Some, reverse, ⊤}
use Rattle.utopist_syntax.specs.declared.item.Bind.{Bind}
use Rattle.utopist_syntax.specs.FileTree.{ItemTree, ConceptTree}
use Rattle.concept_rules.specs.Declarations.{is_among, declared, is_declared, Variable, variable_of}
use Rattle.canonical_paths.specs.PathNames.{PathNames, names_in}
use Rattle.canonical_paths.specs.Canonical.{items_behind}

-- the right path of a binding begins with a name that one of these items declares
pub record LeadsTo (items : List ItemTree) (b : Bind) : Type 0 where
  pub first : List ℕ
  pub rest : PathNames
  pub is : names_in b.right ≡ first ∷ rest
  pub known : is_declared items first ≡ true

-- so do the right paths of all of these
abbrev pub AllLeadTo : List ItemTree → List Bind → Type 0
AllLeadTo items [] = ⊤
AllLeadTo items (b ∷ binds) = LeadsTo items b × AllLeadTo items binds

-- an item behind these: its names are new, and the bindings of its variables lead to these
pub record IsScoped (i : ItemTree) (before : List ItemTree) : Type 0 where
  pub new : (name : List ℕ) → is_among name (declared i) ≡ true → is_declared before name ≡ false
  pub leads : (v : Variable) → variable_of i ≡ Some v → AllLeadTo before v.binds

-- each item is such a one behind those before it
abbrev pub AreScoped : List ItemTree → Type 0
AreScoped [] = ⊤
AreScoped (i ∷ before) = IsScoped i before × AreScoped before

-- so are the effective items of each concept; the latest concept stands first
abbrev pub ConceptsAreScoped : List ConceptTree → Type 0
ConceptsAreScoped [] = ⊤
ConceptsAreScoped (c ∷ earlier) =
    AreScoped (reverse (items_behind earlier c)) × ConceptsAreScoped earlier
