-- The items of a component's concept, from its line.
use Rattle.std.proofs.Common.{◌≡◌, ℕ, ◌<◌, ◌+◌, List, [], ◌∷◌, ◌++◌, Option, Some, map, length, take, get_or, refl, sym, ap, ◌∙◌, subst, append-nil, arith}
use Rattle.std.specs.Prelude.{Contains, slice_get, option_map, reverse}
use Rattle.std.specs.List.{flat_map}
use Rattle.std.specs.Option.{option_map_or}
use Rattle.std.proofs.lemmas.Grind.{flat_map-append}
use Rattle.std.proofs.lemmas.List.{length-map}
use Rattle.std.proofs.lemmas.List.Elements.{Contains-append_left, Contains-append_right}
use Rattle.std.proofs.lemmas.Option.{slice_get-map, slice_get-get_or}
use Rattle.utopist_syntax.specs.declared.concept.Concept.{Concept}
use Rattle.utopist_syntax.specs.FileTree.{ItemTree, ConceptTree, item_tree, concept_tree}
use Rattle.concept_rules.specs.steps.Extent.{no_concept}
use Rattle.canonical_paths.specs.PathNames.{PathNames}
use Rattle.canonical_paths.specs.steps.Settings.{items_of_line}
use Rattle.canonical_paths.proofs.Elements.{split_index}
use Rattle.canonical_paths.proofs.WholeConcepts.{line_more}
use Rattle.canonical_paths.proofs.MarkedConcepts.{line_is_whole, line_is_within}
use Rattle.canonical_paths.proofs.FittingConcepts.{kept_are_fitted}
use Rattle.concept_walk.specs.Visits.{Visit, item_visits}
use Rattle.concept_walk.specs.declared.walk.Walk.{Walk}
use Rattle.concept_walk.specs.declared.found.Walked.{Walked}
use Rattle.concept_walk.specs.Walks.{IsWalk, concepts_of, concept_in, items_in}
use Rattle.concept_walk.specs.steps.Bringing.{AreNext, Bring, inside, is_canonical, component_visits, visits_at}
use Rattle.concept_walk.proofs.VisitsAgain.{visits_again}
use Rattle.concept_walk.proofs.Bringing.{bring_part, next_part}

module _ (w : Walk) (h : IsWalk w) (n : ℕ) (known : n < length w.concepts.now) (line : List ℕ)
    (is : slice_get w.lineages.now.lines n ≡ Some line) where
  within : n < length (concepts_of w)
  within = let e = length-map w.concepts.now concept_tree in omega (arith, e, known)

  there : slice_get (concepts_of w) n ≡ Some (concept_in w n)
  there = slice_get-get_or (concepts_of w) n no_concept within

  pub line_items : items_of_line (concepts_of w) line ≡ items_in w n
  line_items = line_is_whole (concepts_of w) w.lineages.now n (concept_in w n) line h.lineages there is

  pub line_below : (k d : ℕ) → k < length line → get_or line k d < length w.concepts.now
  line_below k d lt =
      let e = length-map w.concepts.now concept_tree in
      let b = line_is_within (concepts_of w) w.lineages.now n line h.lineages within is k d lt in
      omega (arith, e, b)

  pub visits_are : (at : PathNames) → component_visits w n at ≡ visits_at w at (items_of_line (concepts_of w) line)
  visits_are at =
      let f = kept_are_fitted (concepts_of w) h.kept in
      visits_again (is_canonical w) (reverse (concepts_of w)) f.sound.once f.sound.fit (concept_in w n).name.text at
      ∙ ap (visits_at w at) (sym line_items)

  module _ (k d : ℕ) (lt : k < length line) (x e : Concept) (is_x : x ≡ get_or w.concepts.now (get_or line k d) e) where
    at_line : slice_get w.concepts.now (get_or line k d) ≡ Some x
    at_line = slice_get-get_or w.concepts.now (get_or line k d) e (line_below k d lt) ∙ ap (λ (y : Concept). Some y) (sym is_x)

    pub more_items : items_of_line (concepts_of w) (take k line) ++ map item_tree x.items ≡ items_of_line (concepts_of w) (take (k + 1) line)
    more_items = line_more w.concepts.now line k (get_or line k d) d x lt refl at_line

    abbrev items_at : ℕ → List ItemTree
    items_at m = option_map_or (λ (t : ConceptTree). t.items) (slice_get (concepts_of w) m) []

    own_items : items_at (get_or line k d) ≡ map item_tree x.items
    own_items = ap (λ (o : Option ConceptTree). option_map_or (λ (t : ConceptTree). t.items) o []) (slice_get-map concept_tree w.concepts.now (get_or line k d) ∙ ap (option_map concept_tree) at_line)

    abbrev later : List ℕ
    later = (split_index line k (get_or line k d) d lt refl).0

    parts : items_of_line (concepts_of w) line ≡ items_of_line (concepts_of w) (take k line) ++ (map item_tree x.items ++ items_of_line (concepts_of w) later)
    parts =
        ap (flat_map items_at) (split_index line k (get_or line k d) d lt refl).1
        ∙ flat_map-append items_at (take k line) (get_or line k d ∷ later)
        ∙ ap (λ (is : List ItemTree). items_of_line (concepts_of w) (take k line) ++ (is ++ items_of_line (concepts_of w) later)) own_items

    pub are_items : (i : ItemTree) → Contains (map item_tree x.items) i → Contains (items_in w n) i
    are_items i c =
        subst (λ (is : List ItemTree). Contains is i) (sym parts ∙ line_items)
        (Contains-append_right (items_of_line (concepts_of w) (take k line)) (map item_tree x.items ++ items_of_line (concepts_of w) later) i
        (Contains-append_left (map item_tree x.items) (items_of_line (concepts_of w) later) i c))

    pub next_of_line :
        (at : PathNames) (old mid : Walked) → AreNext w (component_visits w n at) old
        → Bring w (visits_at w at (items_of_line (concepts_of w) (take k line))) old mid
        → AreNext w (visits_at w at (map item_tree x.items)) mid
    next_of_line at old mid next brought =
        next_part w (item_visits (inside w) (is_canonical w) at) (items_of_line (concepts_of w) line) (items_of_line (concepts_of w) (take k line)) (map item_tree x.items) (items_of_line (concepts_of w) later) old mid parts
        (subst (λ (vs : List Visit). AreNext w vs old) (visits_are at) next) brought

    pub bring_of_line :
        (at : PathNames) (old mid new : Walked)
        → Bring w (visits_at w at (items_of_line (concepts_of w) (take k line))) old mid
        → Bring w (visits_at w at (map item_tree x.items)) mid new
        → Bring w (visits_at w at (items_of_line (concepts_of w) (take (k + 1) line))) old new
    bring_of_line at old mid new first second =
        subst (λ (is : List ItemTree). Bring w (visits_at w at is) old new) more_items
        (bring_part w (item_visits (inside w) (is_canonical w) at) (items_of_line (concepts_of w) (take k line)) (map item_tree x.items) old mid new first second)
