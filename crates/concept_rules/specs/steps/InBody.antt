-- Points of the body of a relation.
use Rattle.std.specs.Prelude.{◌≡◌, ℕ, List, [], ◌∷◌, ◌++◌, map}
use Rattle.body_lang.specs.Verdicts.{Verdict}
use Rattle.utopist_syntax.specs.FileTree.{ItemTree, body_expr_tree}
use Rattle.concept_rules.specs.declared.fault.ModelFault.{ModelFault}
use Rattle.concept_rules.specs.declared.loops.Loops.{Loops}
use Rattle.concept_rules.specs.declared.body_rules.Relation.{Relation}
use Rattle.concept_rules.specs.declared.body_rules.Surroundings.{Surroundings}
use Rattle.concept_rules.specs.Declarations.{declared}
use Rattle.concept_rules.specs.BodyFault.{Point}
use Rattle.concept_rules.specs.ItemRules.{body_fault}
use Rattle.concept_rules.specs.steps.Extent.{Extent, Reached, IsHere}
use Rattle.concept_rules.specs.steps.Arities.{arity_behind}
use Rattle.concept_rules.specs.steps.LoopNames.{loop_names}

-- a point in these surroundings, where these are the items up to the relation, inside these loops
abbrev pub point_in : Surroundings → List ItemTree → Loops → Loops → Point
point_in at items around rounds = record {
  items = items;
  around = loop_names around;
  inputs = at.inputs.now;
  arities = map arity_behind at.arities.now;
  rounds = loop_names rounds;
}

-- these are the items before a point, and behind them one that declares just this name
pub record AreUpTo (all before : List ItemTree) (text : List ℕ) : Type 0 where
  pub last : ItemTree
  pub items : all ≡ before ++ last ∷ []
  pub name : declared last ≡ text ∷ []

-- these are the items up to the relation of a body
pub record AreBodyItems (at : Surroundings) (items : List ItemTree) : Type 0 where
  pub extent : Extent
  pub before : List ItemTree
  pub found : Reached extent at.seen.now.concepts.now at.seen.now.checked.now at.seen.now.declared.now
  pub here : IsHere extent at.here.now before
  pub up_to : AreUpTo items before at.name.now.text

-- so it is for each list of items up to the relation
abbrev pub InEachBody : Surroundings → (List ItemTree → Type 0) → Type 0
InEachBody at P = (items : List ItemTree) → AreBodyItems at items → P items

-- the verdict on the body of a relation, behind these items
abbrev pub body_behind : List ItemTree → Relation → Verdict ModelFault
body_behind items r = body_fault items r.parts.now (body_expr_tree r.body.now)
