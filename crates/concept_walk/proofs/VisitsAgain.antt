-- The visits of a component are those at its concept's effective items.
use Rattle.std.proofs.Common.{◌≡◌, ℕ, Bool, true, false, List, [], ◌∷◌, ◌++◌, refl, sym, ap, ◌∙◌}
use Rattle.std.specs.Prelude.{if◌then◌else◌, Contains}
use Rattle.std.specs.Str.{bytes_eq}
use Rattle.std.specs.List.{flat_map}
use Rattle.priz_base.proofs.Members.{contains_here, contains_there}
use Rattle.utopist_syntax.specs.declared.item.VarKind.{VarKind}
use Rattle.utopist_syntax.specs.declared.item.VarKind.TheVariants.{Numeric, Of}
use Rattle.utopist_syntax.specs.FileTree.{ItemTree, var, eq, rel, ConceptTree}
use Rattle.concept_rules.specs.Declarations.{is_among}
use Rattle.concept_rules.specs.Lineage.{concept_names, lineage, all_items, effective_items, ancestors}
use Rattle.canonical_paths.specs.PathNames.{PathNames}
use Rattle.canonical_paths.specs.Canonical.{items_behind}
use Rattle.canonical_paths.specs.steps.Fitting.{IsKnownKind, ConceptsFit, AreNamedOnce}
use Rattle.canonical_paths.proofs.FittingItems.{known_in}
use Rattle.canonical_paths.proofs.FittingConcepts.{is_other}
use Rattle.canonical_paths.proofs.KnownPaths.{AreKnown, own, own_is_here, all_known}
use Rattle.concept_walk.specs.Visits.{Visit, variable_visits, item_visits, visits}

-- a list for each of some elements, and another way to make it
pub same_lists :
    {X Y : Type 0} (f g : X → List Y) (xs : List X) → ((x : X) → Contains xs x → f x ≡ g x)
    → flat_map f xs ≡ flat_map g xs
same_lists f g [] h = refl
same_lists f g (x ∷ xs) h =
    ap (λ ys. ys ++ flat_map f xs) (h x (contains_here x xs))
    ∙ ap (λ ys. g x ++ ys) (same_lists f g xs (λ y k. h y (contains_there x xs y k)))

module _ (canon : PathNames → Bool) (c : ConceptTree) (earlier : List ConceptTree)
    (fresh : is_among c.name.text (concept_names earlier) ≡ false) where
  -- one more concept has no part in the visits of those before it
  same_visits :
      (name : List ℕ) (at : PathNames) → is_among name (concept_names earlier) ≡ true
      → visits earlier canon name at ≡ visits (c ∷ earlier) canon name at
  same_visits name at h =
      ap (λ (t : Bool). if t then flat_map (item_visits (visits earlier canon) canon at) (items_behind earlier c) else visits earlier canon name at)
      (sym (is_other c earlier fresh name h))

  same_variable :
      (kind : VarKind) (whole : PathNames) → IsKnownKind earlier kind
      → variable_visits (visits earlier canon) canon kind whole
      ≡ variable_visits (visits (c ∷ earlier) canon) canon kind whole
  same_variable Numeric whole h = refl
  same_variable (Of type) whole h = ap (λ (vs : List Visit). if canon whole then vs else []) (same_visits type.text whole h)

  same_item :
      (at : PathNames) (items : List ItemTree) → AreKnown earlier items → (i : ItemTree)
      → Contains items i
      → item_visits (visits earlier canon) canon at i
      ≡ item_visits (visits (c ∷ earlier) canon) canon at i
  same_item at items known (var names kind binds) k =
      same_lists _ _ names (λ n h. same_variable kind (at ++ n.text ∷ []) (known names kind binds k))
  same_item at items known (eq left right) k = refl
  same_item at items known (rel n parts output body) k = refl

  same_items :
      (at : PathNames) (items : List ItemTree) → AreKnown earlier items
      → flat_map (item_visits (visits earlier canon) canon at) items
      ≡ flat_map (item_visits (visits (c ∷ earlier) canon) canon at) items
  same_items at items known = same_lists _ _ items (same_item at items known)

pub visits_again :
    (canon : PathNames → Bool) (concepts : List ConceptTree) → AreNamedOnce concepts
    → ConceptsFit concepts → (name : List ℕ) (at : PathNames)
    → visits concepts canon name at
    ≡ flat_map (item_visits (visits concepts canon) canon at) (effective_items concepts name)
visits_again canon [] once fit name at = refl
visits_again canon (c ∷ earlier) once fit name at =
    by (bytes_eq c.name.text name)
    (same_items canon c earlier once.0 at (own c earlier) (known_in earlier [] (own c earlier) fit.0))
    (visits_again canon earlier once.1 fit.1 name at ∙ same_items canon c earlier once.0 at (effective_items earlier name) (all_known earlier fit.1 name))
  where
    by : (t : Bool) → flat_map (item_visits (visits earlier canon) canon at) (own c earlier) ≡ flat_map (item_visits (visits (c ∷ earlier) canon) canon at) (own c earlier) → visits earlier canon name at ≡ flat_map (item_visits (visits (c ∷ earlier) canon) canon at) (effective_items earlier name) → (if t then flat_map (item_visits (visits earlier canon) canon at) (own c earlier) else visits earlier canon name at) ≡ flat_map (item_visits (visits (c ∷ earlier) canon) canon at) (all_items (if t then ancestors earlier c.parents ++ c ∷ [] else lineage earlier name))
    by true first rest = first ∙ ap (flat_map (item_visits (visits (c ∷ earlier) canon) canon at)) (own_is_here c earlier)
    by false first rest = rest
