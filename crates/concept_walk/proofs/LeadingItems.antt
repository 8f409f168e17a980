-- Items each of whose paths leads from some items to a number.
use Rattle.std.proofs.Common.{◌≡◌, List, [], ◌∷◌, ◌++◌, Option, Some, None, Ok, refl, subst, ⊎_elim, append_assoc}
use Rattle.std.specs.Prelude.{Contains}
use Rattle.std.proofs.lemmas.List.Elements.{Contains-append_left}
use Rattle.priz_base.proofs.Members.{contains_cases, contains_none}
use Rattle.body_lang.proofs.Verdicts.{first_passes, second_passes}
use Rattle.utopist_syntax.specs.Named.{Named}
use Rattle.utopist_syntax.specs.declared.item.VarKind.{VarKind}
use Rattle.utopist_syntax.specs.declared.item.VarKind.TheVariants.{Numeric, Of}
use Rattle.utopist_syntax.specs.FileTree.{ItemTree, ConceptTree}
use Rattle.concept_rules.specs.Kinds.{kind_of_path}
use Rattle.concept_rules.specs.PathRules.{numeric_kind, numeric_path}
use Rattle.concept_rules.specs.ConceptRules.{items_fault}
use Rattle.canonical_paths.specs.steps.Fitting.{LeadsToKind}
use Rattle.canonical_paths.proofs.FittingItems.{AreAmong, Extends, extends_itself, leads_to}
use Rattle.concept_walk.proofs.PathsOfItems.{ItemPaths, IsNumeric, turn_item, item_paths_known}

-- the path leads from these items to a number
abbrev pub LeadsToNumber : List ConceptTree → List ItemTree → List Named → Type 0
LeadsToNumber concepts items names = LeadsToKind concepts items names Numeric

-- so does each path of the item
abbrev pub ItemLeads : List ConceptTree → List ItemTree → ItemTree → Type 0
ItemLeads concepts items i = ItemPaths (LeadsToNumber concepts items) i

-- where the type of a path is numeric, it is that of numbers
numeric_is : (names : List Named) (kind : Option VarKind) → numeric_kind names kind ≡ Ok tt → kind ≡ Some Numeric
numeric_is names None h = absurd (cc)
numeric_is names (Some Numeric) h = refl
numeric_is names (Some (Of type)) h = absurd (cc)

-- a known path leads to a number
known_leads : (concepts : List ConceptTree) (items : List ItemTree) (names : List Named) → IsNumeric concepts items names → LeadsToNumber concepts items names
known_leads concepts items names h = leads_to concepts items names Numeric (numeric_is names (kind_of_path concepts items names) h)

module _ (concepts more : List ConceptTree) (x : Extends concepts more) (items wide : List ItemTree) (among : AreAmong items wide) where
  -- it leads there from more items too, and where there are more concepts
  number_wide : (names : List Named) → LeadsToNumber concepts items names → LeadsToNumber more wide names
  number_wide names l = record {
    first = l.first;
    rest = l.rest;
    is = l.is;
    item = l.item;
    there = among l.item l.there;
    own = l.own;
    variable = l.variable;
    is_variable = l.is_variable;
    along = x.kinds l.variable.kind l.rest Numeric l.along;
  }

  -- so it is for each path of an item
  pub item_leads_wide : (i : ItemTree) → ItemLeads concepts items i → ItemLeads more wide i
  item_leads_wide i h = turn_item (LeadsToNumber concepts items) (LeadsToNumber more wide) number_wide i h

-- items that pass one behind the other lead from all of them, and from those before
pub items_lead : (concepts : List ConceptTree) (before items : List ItemTree) → items_fault concepts before items ≡ Ok tt → (i : ItemTree) → Contains items i → ItemLeads concepts (before ++ items) i
items_lead concepts before [] h i c = absurd (contains_none i c)
items_lead concepts before (j ∷ items) h i c =
    ⊎_elim
    (λ e. subst (ItemLeads concepts (before ++ j ∷ items)) e first)
    (λ k. subst (λ (wide : List ItemTree). ItemLeads concepts wide i) (append_assoc before (j ∷ []) items) (items_lead concepts (before ++ j ∷ []) items (second_passes _ _ h) i k))
    (contains_cases j items i c)
  where
    first : ItemLeads concepts (before ++ j ∷ items) j
    first =
        item_leads_wide concepts concepts (extends_itself concepts) before (before ++ j ∷ items) (λ a k. Contains-append_left before (j ∷ items) a k) j
        (turn_item (IsNumeric concepts before) (LeadsToNumber concepts before) (known_leads concepts before) j (item_paths_known concepts before j (first_passes _ _ h)))
