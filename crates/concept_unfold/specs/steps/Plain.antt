-- Items of the forms that are built, behind some variables: what the rules of concepts leave of them.
use Rattle.std.specs.Prelude.{◌≡◌, ℕ, List, [], ◌∷◌, ◌++◌, map, Option, Some, None, Ok, Contains}
use Rattle.utopist_syntax.specs.Named.{Named}
use Rattle.utopist_syntax.specs.ExprTree.{ExprTree}
use Rattle.utopist_syntax.specs.FileTree.{ItemTree, var, eq, rel}
use Rattle.concept_rules.specs.BodyFault as rules
use Rattle.concept_unfold.specs.Paths.{IsOneOf, inputs_of, input_names}
use Rattle.concept_unfold.specs.Declarations.{variables}
use Rattle.concept_unfold.specs.Unfolded.{AreKnown}

-- the names are new, behind these variables and one behind the other
abbrev pub AreFresh : List (List ℕ) → List Named → Type 0
AreFresh vars [] = Unit {0}
AreFresh vars (n ∷ ns) = (¬ Contains vars n.text) × AreFresh (vars ++ n.text ∷ []) ns

-- a body over these inputs, each of one name, has no fault, or there is none
abbrev pub HasNoFault : List (List ℕ) → Option ExprTree → Type 0
HasNoFault inputs None = Unit {0}
HasNoFault inputs (Some e) =
    (pt : rules.Point) × (pt.inputs ≡ map (λ n. n ∷ []) inputs) × (pt.rounds ≡ [])
    × (rules.expr_fault pt e ≡ Ok tt)

-- an item declares new variables, or relates variables
abbrev pub ItemFollows : List (List ℕ) → ItemTree → Type 0
ItemFollows vars (var ns kind binds) = AreFresh vars ns
ItemFollows vars (eq left right) = Unit {0}
ItemFollows vars (rel n parts output body) =
    AreKnown vars (inputs_of parts) × IsOneOf vars output × HasNoFault (input_names parts) body

-- items do, one behind the other
abbrev pub ItemsFollow : List (List ℕ) → List ItemTree → Type 0
ItemsFollow vars [] = Unit {0}
ItemsFollow vars (i ∷ items) = ItemFollows vars i × ItemsFollow (vars ++ variables i) items
