-- How far a walk is.
use Rattle.std.specs.Prelude.{◌≡◌, ◌+◌, ℕ, List, [], ◌∷◌, ◌++◌, reverse, Contains, Bool, Some}
use Rattle.std.specs.List.{flat_map}
use Rattle.std.specs.Cmp.Lexicographic.{pointwise}
use Rattle.std.specs.Str.{bytes_eq}
use Rattle.utopist_syntax.specs.Named.{Named}
use Rattle.utopist_syntax.specs.declared.item.VarKind.{VarKind}
use Rattle.utopist_syntax.specs.FileTree.{ItemTree}
use Rattle.concept_rules.specs.Declarations.{Variable, variable as variable_named}
use Rattle.canonical_paths.specs.PathNames.{PathNames}
use Rattle.canonical_paths.specs.Components.{canonical_in}
use Rattle.concept_walk.specs.Visits.{Visit, variable, variable_visits, item_visits, visits}
use Rattle.concept_walk.specs.declared.walk.Walk.{Walk}
use Rattle.concept_walk.specs.declared.walk.Component.{Component}
use Rattle.concept_walk.specs.declared.found.Walked.{Walked}
use Rattle.concept_walk.specs.steps.Trails.{trail_path}
use Rattle.concept_walk.specs.Walks.{concepts_of, concept_in, items_in, whole_walk, AreFound, IsPlace}

-- whether a path of the asked concept is canonical
abbrev pub is_canonical : Walk → PathNames → Bool
is_canonical w p = pointwise bytes_eq (canonical_in (concepts_of w) (concept_in w w.asked) p) p

-- the walk through a component of this path, whose concept has this name
abbrev pub inside : Walk → List ℕ → PathNames → List Visit
inside w name at = visits (reverse (concepts_of w)) (is_canonical w) name at

-- through a component of the concept of this number
abbrev pub component_visits : Walk → ℕ → PathNames → List Visit
component_visits w n at = inside w (concept_in w n).name.text at

-- at the items of a component of this path
abbrev pub visits_at : Walk → PathNames → List ItemTree → List Visit
visits_at w at items = flat_map (item_visits (inside w) (is_canonical w) at) items

-- at variables of this type in it
abbrev pub visits_of : Walk → PathNames → VarKind → List Named → List Visit
visits_of w at kind names =
    flat_map (λ n. variable_visits (inside w) (is_canonical w) kind (at ++ n.text ∷ [])) names

-- so it is for a component of the walk
abbrev pub IsComponent : Walk → Component → Type 0
IsComponent w c = IsPlace w c.concept c.start (trail_path c.trail.now)

-- these visits come next in the walk
pub record AreNext (w : Walk) (vs : List Visit) (f : Walked) : Type 0 where
  pub before : List Visit
  pub rest : List Visit
  pub are : whole_walk w ≡ before ++ (vs ++ rest)
  pub found : AreFound w before f

-- what they bring is found too, where they come next
abbrev pub Bring : Walk → List Visit → Walked → Walked → Type 0
Bring w vs old new =
    (before rest : List Visit)
    → whole_walk w ≡ before ++ (vs ++ rest) → AreFound w before old → AreFound w (before ++ vs) new

-- the variable of this name is one of the concept's, and it has this type
pub record IsVariable (w : Walk) (n : ℕ) (kind : VarKind) (name : List ℕ) : Type 0 where
  pub own : Variable
  pub is : variable_named (items_in w n) name ≡ Some own
  pub type : own.kind ≡ kind

-- so is each of these
abbrev pub AreVariablesOf : Walk → ℕ → VarKind → List Named → Type 0
AreVariablesOf w n kind names = (m : Named) → Contains names m → IsVariable w n kind m.text

-- these are items of the concept
abbrev pub AreItems : Walk → ℕ → List ItemTree → Type 0
AreItems w n items = (i : ItemTree) → Contains items i → Contains (items_in w n) i
