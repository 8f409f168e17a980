-- Items among others.
use Rattle.std.proofs.Common.{◌≡◌, List, [], ◌∷◌, ◌++◌, Option, Some, map, refl, sym, subst, ap, ⊎_elim}
use Rattle.std.specs.Prelude.{Contains}
use Rattle.std.proofs.lemmas.List.{map-append}
use Rattle.std.proofs.lemmas.List.Elements.{Contains-append_right}
use Rattle.priz_base.proofs.Members.{contains_here, contains_cases, contains_none}
use Rattle.utopist_syntax.specs.declared.item.Item.{Item}
use Rattle.utopist_syntax.specs.Named.{Named}
use Rattle.utopist_syntax.specs.declared.path.Path.{Path}
use Rattle.utopist_syntax.specs.declared.item.Part.{Part}
use Rattle.utopist_syntax.specs.ExprTree.{ExprTree}
use Rattle.utopist_syntax.specs.FileTree.{ItemTree, eq, rel, item_tree}
use Rattle.canonical_paths.specs.PathNames.{PathNames}
use Rattle.concept_walk.specs.Visits.{Visit, equation, relation, item_visit}
use Rattle.concept_walk.specs.declared.walk.Walk.{Walk}
use Rattle.concept_walk.specs.steps.Bringing.{visits_at}

pub one_only : {X : Type 0} (x y : X) → Contains (x ∷ []) y → x ≡ y
one_only x y h = ⊎_elim (λ e. e) (λ k. absurd (contains_none y k)) (contains_cases x [] y h)

-- an item that stands behind some of these and before the others
pub one_of_items :
    (items done more : List Item) (x : Item) → items ≡ done ++ x ∷ more → (i : ItemTree)
    → Contains (item_tree x ∷ []) i → Contains (map item_tree items) i
one_of_items items done more x split i h =
    subst (Contains (map item_tree items)) (one_only (item_tree x) i h)
    (subst (λ (is : List Item). Contains (map item_tree is) (item_tree x)) (sym split)
    (subst (λ (is : List ItemTree). Contains is (item_tree x)) (sym (map-append item_tree done (x ∷ more)))
    (Contains-append_right (map item_tree done) (item_tree x ∷ map item_tree more) (item_tree x) (contains_here (item_tree x) (map item_tree more)))))

-- an item that isn't one of variables is met at one visit
pub record IsMetOnce (w : Walk) (at : PathNames) (i : ItemTree) : Type 0 where
  pub visit : Visit
  pub is : visits_at w at (i ∷ []) ≡ visit ∷ []
  pub seen : item_visit at i ≡ Some visit

pub equation_is_met :
    (w : Walk) (at : PathNames) (i : ItemTree) (left right : ExprTree) → i ≡ eq left right
    → IsMetOnce w at i
equation_is_met w at i left right e = record { visit = equation at left right; is = ap (λ (j : ItemTree). visits_at w at (j ∷ [])) e; seen = ap (item_visit at) e }

pub relation_is_met :
    (w : Walk) (at : PathNames) (i : ItemTree) (name : Named) (parts : List Part) (output : Path)
    (body : Option ExprTree) → i ≡ rel name parts output body → IsMetOnce w at i
relation_is_met w at i name parts output body e = record { visit = relation at parts output body; is = ap (λ (j : ItemTree). visits_at w at (j ∷ [])) e; seen = ap (item_visit at) e }
