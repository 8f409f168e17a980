-- The walk of a concept: its items and those of its components, where their paths are canonical.
use Rattle.std.specs.Prelude.{ℕ, if◌then◌else◌, List, [], ◌∷◌, ◌++◌, Bool, Option, Some, None}
use Rattle.std.specs.Cmp.Lexicographic.{pointwise}
use Rattle.std.specs.Str.{bytes_eq}
use Rattle.std.specs.List.{flat_map}
use Rattle.utopist_syntax.specs.declared.path.Path.{Path}
use Rattle.utopist_syntax.specs.declared.item.VarKind.{VarKind}
use Rattle.utopist_syntax.specs.declared.item.VarKind.TheVariants.{Numeric, Of}
use Rattle.utopist_syntax.specs.declared.item.Part.{Part}
use Rattle.utopist_syntax.specs.ExprTree.{ExprTree}
use Rattle.utopist_syntax.specs.FileTree.{ItemTree, var, eq, rel, ConceptTree}
use Rattle.canonical_paths.specs.PathNames.{PathNames}
use Rattle.canonical_paths.specs.Canonical.{items_behind, canonical_path}

-- what a walk meets: a variable by its whole path; an equation, or a relation, in the component of this path
pub data Visit : Type 0 where
  variable : PathNames → Visit
  equation : PathNames → ExprTree → ExprTree → Visit
  relation : PathNames → List Part → Path → Option ExprTree → Visit

-- at a variable of this whole path, where `inside` walks a component of a concept
abbrev pub variable_visits :
    (List ℕ → PathNames → List Visit) → (PathNames → Bool) → VarKind → PathNames → List Visit
variable_visits inside is_canonical Numeric whole =
    if is_canonical whole then variable whole ∷ [] else []
variable_visits inside is_canonical (Of type) whole =
    if is_canonical whole then inside type.text whole else []

-- at an item of the component of this path
abbrev pub item_visits :
    (List ℕ → PathNames → List Visit) → (PathNames → Bool) → PathNames → ItemTree → List Visit
item_visits inside is_canonical at (var names kind binds) =
    flat_map (λ n. variable_visits inside is_canonical kind (at ++ n.text ∷ [])) names
item_visits inside is_canonical at (eq left right) = equation at left right ∷ []
item_visits inside is_canonical at (rel name parts output body) = relation at parts output body ∷ []

-- the visit of an equation or a relation of the component of this path
abbrev pub item_visit : PathNames → ItemTree → Option Visit
item_visit at (var names kind binds) = None
item_visit at (eq left right) = Some (equation at left right)
item_visit at (rel name parts output body) = Some (relation at parts output body)

-- of the component of this path, whose concept has this name; the latest concept stands first
abbrev pub visits : List ConceptTree → (PathNames → Bool) → List ℕ → PathNames → List Visit
visits [] is_canonical name at = []
visits (c ∷ earlier) is_canonical name at =
    if bytes_eq c.name.text name
    then flat_map (item_visits (visits earlier is_canonical) is_canonical at) (items_behind earlier c)
    else visits earlier is_canonical name at

-- the walk of the concept of this name
abbrev pub walk : List ConceptTree → List ℕ → List Visit
walk concepts name =
    visits concepts (λ p. pointwise bytes_eq (canonical_path concepts name p) p) name []

-- the variable that is met
abbrev pub visited_variable : Visit → List PathNames
visited_variable (variable whole) = whole ∷ []
visited_variable (equation at left right) = []
visited_variable (relation at parts output body) = []

-- the variables that are met
abbrev pub visited_variables : List Visit → List PathNames
visited_variables met = flat_map visited_variable met
