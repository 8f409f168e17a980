-- A walk through the components of a concept, and what it finds.
use Rattle.std.specs.Prelude.{◌≡◌, ◌+◌, ◌<◌, ℕ, suc, List, [], ◌∷◌, ◌++◌, map, take, reverse, length, slice_get, Contains, Result, Ok, Err, Some, ⊤}
use Rattle.std.specs.List.{flat_map}
use Rattle.statement_set.specs.Problem.{empty_task}
use Rattle.utopist_syntax.specs.Named.{Named}
use Rattle.utopist_syntax.specs.declared.item.VarKind.TheVariants.{Of}
use Rattle.utopist_syntax.specs.FileTree.{ItemTree, ConceptTree, item_tree, concept_tree}
use Rattle.concept_rules.specs.declared.fault.Rule.TheVariants as rule
use Rattle.concept_rules.specs.declared.fault.Limit.TheVariants as limit
use Rattle.concept_rules.specs.declared.fault.UnfoldFault.{UnfoldFault}
use Rattle.concept_rules.specs.declared.fault.UnfoldFault.TheVariants as fault
use Rattle.name_sets.specs.Paths.{texts}
use Rattle.concept_rules.specs.Kinds.{kind_along}
use Rattle.concept_rules.specs.ConceptRules.{concepts_fault}
use Rattle.concept_rules.specs.Lineages.{AreLineages}
use Rattle.concept_rules.specs.PathRules.{broken_at}
use Rattle.concept_rules.specs.steps.Extent.{concept_of}
use Rattle.canonical_paths.specs.PathNames.{PathNames}
use Rattle.canonical_paths.specs.Components.{effective_in, declared_in, HasFewPaths}
use Rattle.canonical_paths.specs.Layouts.{AreLaidOut}
use Rattle.concept_walk.specs.Limits.{max_variables, max_size}
use Rattle.concept_walk.specs.Visits.{Visit, variable, equation, relation, walk, item_visit, visited_variables}
use Rattle.concept_walk.specs.Dotted.{dotted, NamesHaveNoDot}
use Rattle.concept_walk.specs.declared.walk.Walk.{Walk}
use Rattle.concept_walk.specs.declared.found.Met.{Met}
use Rattle.concept_walk.specs.declared.found.Walked.{Walked}

-- the concepts of the file, and the one of this number
abbrev pub concepts_of : Walk → List ConceptTree
concepts_of w = map concept_tree w.concepts.now

abbrev pub concept_in : Walk → ℕ → ConceptTree
concept_in w n = concept_of (concepts_of w) n

-- its effective items, and its declared paths
abbrev pub items_in : Walk → ℕ → List ItemTree
items_in w n = effective_in (concepts_of w) (concept_in w n)

abbrev pub paths_in : Walk → ℕ → List PathNames
paths_in w n = declared_in (concepts_of w) (concept_in w n)

-- the whole walk of the asked concept
abbrev pub whole_walk : Walk → List Visit
whole_walk w = walk (reverse (concepts_of w)) (concept_in w w.asked).name.text

-- these are lineages and layouts of the concepts of a file that keeps the rules, and of the asked
-- one among them, which has few paths; and no name has a dot
pub record IsWalk (w : Walk) : Type 0 where
  pub kept : concepts_fault [] (concepts_of w) ≡ Ok tt
  pub lineages : AreLineages (concepts_of w) w.lineages.now
  pub asked : w.asked < length w.concepts.now
  pub few : HasFewPaths (concepts_of w) w.asked
  pub laid : AreLaidOut (concepts_of w) w.asked w.layouts.now
  pub undotted : NamesHaveNoDot (concepts_of w)

-- the paths inside of the component of this path stand from this number on
abbrev pub StandFrom : List PathNames → PathNames → ℕ → List PathNames → Type 0
StandFrom paths at start inner =
    (n : ℕ) (q : PathNames)
    → slice_get inner n ≡ Some q → slice_get paths (start + n) ≡ Some (at ++ q)

-- this path leads from the asked concept to a component of the concept of this number
pub record IsPathTo (w : Walk) (at : PathNames) (n : ℕ) : Type 0 where
  pub names : List Named
  pub are : texts names ≡ at
  pub type : Named
  pub leads :
      kind_along (reverse (concepts_of w)) (Of (concept_in w w.asked).name) names ≡ Some (Of type)
  pub named : type.text ≡ (concept_in w n).name.text

-- a component of this path has the concept of this number, and its paths stand from `start` on
pub record IsPlace (w : Walk) (n start : ℕ) (at : PathNames) : Type 0 where
  pub laid : AreLaidOut (concepts_of w) w.asked w.layouts.now
  pub reached : Contains laid.reached n
  pub known : n < length w.concepts.now
  pub leads : IsPathTo w at n
  pub stand : StandFrom (paths_in w w.asked) at start (paths_in w n)

-- what is met, but for variables
abbrev pub visited_item : Visit → List Visit
visited_item (variable path) = []
visited_item (equation at left right) = equation at left right ∷ []
visited_item (relation at parts output body) = relation at parts output body ∷ []

-- the equation or the relation that was met at this visit
pub record IsMet (w : Walk) (v : Visit) (m : Met) : Type 0 where
  pub at : PathNames
  pub place : IsPlace w m.concept m.start at
  pub own : Contains (items_in w m.concept) (item_tree m.item.now)
  pub is : item_visit at (item_tree m.item.now) ≡ Some v

-- one for each visit, in order
abbrev pub AreAllMet : Walk → List Visit → List Met → Type 0
AreAllMet w [] [] = ⊤
AreAllMet w [] (m ∷ ms) = ⊥
AreAllMet w (v ∷ vs) [] = ⊥
AreAllMet w (v ∷ vs) (m ∷ ms) = IsMet w v m × AreAllMet w vs ms

-- what was found at these visits; of equations and relations those up to one past the most
pub record AreFound (w : Walk) (vs : List Visit) (f : Walked) : Type 0 where
  pub problem : f.problem ≡ record empty_task { names = map dotted (visited_variables vs) }
  pub variables :
      map (slice_get (paths_in w w.asked)) f.variables ≡ map Some (visited_variables vs)
  pub items : AreAllMet w (take (suc max_size) (flat_map visited_item vs)) f.items

-- a walk stops only where the problem has too many variables, or memory was wanting
abbrev pub Stops : {X : Type 0} → Walk → Result X UnfoldFault → Type 0
Stops w (Ok x) = ⊤
Stops w (Err (fault.Model f)) =
    (f ≡ broken_at w.named.now (rule.TooMany limit.Variables))
    × (max_variables < length (visited_variables (whole_walk w)))
Stops w (Err fault.NoMem) = ⊤
