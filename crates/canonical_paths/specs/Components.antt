-- The components of concepts, which stand in the order of the file and have the numbers of their
-- places.
use Rattle.std.specs.Prelude.{◌≡◌, ◌≤◌, ℕ, List, Contains, Some, true, reverse, length, slice_get}
use Rattle.utopist_syntax.specs.Named.{Named}
use Rattle.utopist_syntax.specs.declared.item.VarKind.TheVariants.{Of}
use Rattle.utopist_syntax.specs.FileTree.{ItemTree, ConceptTree}
use Rattle.concept_rules.specs.Declarations.{is_among, declared, Variable, variable_of}
use Rattle.concept_rules.specs.Lineage.{effective_items}
use Rattle.canonical_paths.specs.PathNames.{PathNames}
use Rattle.canonical_paths.specs.Canonical.{canonical_path}
use Rattle.canonical_paths.specs.DeclaredPaths.{declared_paths}
use Rattle.canonical_paths.specs.Limits.{max_declared}

-- the effective items of one of these concepts
abbrev pub effective_in : List ConceptTree → ConceptTree → List ItemTree
effective_in all c = effective_items (reverse all) c.name.text

-- its declared paths
abbrev pub declared_in : List ConceptTree → ConceptTree → List PathNames
declared_in all c = declared_paths (reverse all) c.name.text

-- the canonical path of a path in it
abbrev pub canonical_in : List ConceptTree → ConceptTree → PathNames → PathNames
canonical_in all c path = canonical_path (reverse all) c.name.text path

-- the concept of this number has no more declared paths than may be
abbrev pub HasFewPaths : List ConceptTree → ℕ → Type 0
HasFewPaths all n =
    (c : ConceptTree) → slice_get all n ≡ Some c → length (declared_in all c) ≤ max_declared

-- the concept of this number has this name
pub record IsNamed (all : List ConceptTree) (n : ℕ) (name : List ℕ) : Type 0 where
  pub concept : ConceptTree
  pub is : slice_get all n ≡ Some concept
  pub named : concept.name.text ≡ name

-- the item declares a component, and this is the name of its type
pub record DeclaresComponent (i : ItemTree) (type : List ℕ) : Type 0 where
  pub name : List ℕ
  pub own : is_among name (declared i) ≡ true
  pub variable : Variable
  pub is : variable_of i ≡ Some variable
  pub of : Named
  pub kind : variable.kind ≡ Of of
  pub named : of.text ≡ type

-- the concept of number n has a component of the concept of number m
pub record HasComponent (all : List ConceptTree) (n m : ℕ) : Type 0 where
  pub concept : ConceptTree
  pub is : slice_get all n ≡ Some concept
  pub item : ItemTree
  pub there : Contains (effective_in all concept) item
  pub type : List ℕ
  pub declares : DeclaresComponent item type
  pub number : IsNamed all m type
