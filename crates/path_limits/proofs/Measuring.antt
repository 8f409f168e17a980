-- One more concept is measured.
use Rattle.std.proofs.Common.{◌≡◌, ℕ, zero, suc, ◌<◌, ◌+◌, List, [], ◌∷◌, ◌++◌, Some, Ok, map, length, get_or, sym, ap, ◌∙◌, subst, length-append, arith}
use Rattle.std.specs.Prelude.{reverse, slice_get, option_map}
use Rattle.std.specs.List.{flat_map}
use Rattle.std.proofs.lemmas.Option.{slice_get_within, slice_get-map, slice_get-get_or}
use Rattle.utopist_syntax.specs.declared.concept.Concept.{Concept}
use Rattle.utopist_syntax.specs.FileTree.{ConceptTree, item_tree, concept_tree}
use Rattle.concept_rules.specs.Lineage.{lineage}
use Rattle.concept_rules.specs.Lineages.{Lines, AreLineages}
use Rattle.concept_rules.specs.ConceptRules.{concepts_fault}
use Rattle.canonical_paths.specs.PathNames.{PathNames}
use Rattle.canonical_paths.specs.DeclaredPaths.{item_paths, declared_paths}
use Rattle.canonical_paths.specs.Components.{declared_in}
use Rattle.canonical_paths.proofs.Elements.{heads, tails}
use Rattle.path_limits.specs.declared.extent.PathExtent.{PathExtent}
use Rattle.path_limits.specs.Extents.{extent_of}
use Rattle.path_limits.specs.steps.Measured.{AreMeasured, AreOf, own_paths, AreFirst}
use Rattle.path_limits.proofs.FirstExtents.{one_more_first}
use Rattle.path_limits.proofs.Lines.{declared_by_line, items_measured, line_parts}

-- numbers at which extents stand are numbers of extents
parts_below : (paths : ConceptTree → List PathNames) (own : List PathExtent) (line : List ℕ) (cs : List ConceptTree) → AreOf paths own line cs → (k d : ℕ) → k < length line → get_or line k d < length own
parts_below paths own [] cs e k d lt = absurd (omega (arith, lt))
parts_below paths own (m ∷ line) [] e k d lt = absurd (cc)
parts_below paths own (m ∷ line) (x ∷ cs) e zero d lt =
    slice_get_within own m (extent_of (paths x)) (heads (slice_get own m) (Some (extent_of (paths x))) (map (slice_get own) line) (map (λ c. Some (extent_of (paths c))) cs) e)
parts_below paths own (m ∷ line) (x ∷ cs) e (suc k) d lt =
    parts_below paths own line cs (tails (slice_get own m) (Some (extent_of (paths x))) (map (slice_get own) line) (map (λ c. Some (extent_of (paths c))) cs) e) k d (omega (arith, lt))

module _ (concepts : List Concept) (kept : concepts_fault [] (map concept_tree concepts) ≡ Ok tt) (l : Lines) (lineages : AreLineages (map concept_tree concepts) l)
    (n : ℕ) (lt : n < length concepts) (y d : Concept) (is : y ≡ get_or concepts n d)
    (own extents : List PathExtent) (own_first : AreFirst (own_paths (map concept_tree concepts)) (map concept_tree concepts) own) (own_count : length own ≡ n)
    (whole_first : AreFirst (declared_in (map concept_tree concepts)) (map concept_tree concepts) extents) (whole_count : length extents ≡ n)
  where
    abbrev all : List ConceptTree
    all = map concept_tree concepts

    there : slice_get all n ≡ Some (concept_tree y)
    there =
        slice_get-map concept_tree concepts n
        ∙ ap (option_map concept_tree) (slice_get-get_or concepts n d lt ∙ ap (λ (x : Concept). Some x) (sym is))

    module _ (e : PathExtent) (measured : (inside : List ℕ → List PathNames) → AreMeasured inside l.names extents (map item_tree y.items) → e ≡ extent_of (flat_map (item_paths inside) (map item_tree y.items))) where
      own_is : e ≡ extent_of (own_paths all (concept_tree y))
      own_is =
          measured (declared_paths (reverse all))
          (subst (λ (ns : List (List ℕ)). AreMeasured (declared_paths (reverse all)) ns extents (map item_tree y.items)) (sym lineages.names)
          (items_measured all kept n (concept_tree y) there extents whole_first whole_count))

      -- its own paths are measured
      pub more_own : AreFirst (own_paths all) all (own ++ e ∷ [])
      more_own = one_more_first (own_paths all) all own (concept_tree y) e own_first (ap (slice_get all) own_count ∙ there) own_is

      pub own_size : length (own ++ e ∷ []) ≡ suc n
      own_size = let a = length-append own (e ∷ []) in omega (arith, a, own_count)

      module _ (line : List ℕ) (line_is : slice_get l.lines n ≡ Some line) where
        parts : AreOf (own_paths all) (own ++ e ∷ []) line (lineage (reverse all) (concept_tree y).name.text)
        parts = line_parts all kept n (concept_tree y) there (own ++ e ∷ []) more_own own_size l lineages line line_is

        -- so are those of its line
        pub line_measured : (k d : ℕ) → k < length line → get_or line k d < length (own ++ e ∷ [])
        line_measured = parts_below (own_paths all) (own ++ e ∷ []) line (lineage (reverse all) (concept_tree y).name.text) parts

        module _ (w : PathExtent) (joined : (paths : ConceptTree → List PathNames) (cs : List ConceptTree) → AreOf paths (own ++ e ∷ []) line cs → w ≡ extent_of (flat_map paths cs)) where
          whole_is : w ≡ extent_of (declared_in all (concept_tree y))
          whole_is = joined (own_paths all) (lineage (reverse all) (concept_tree y).name.text) parts ∙ ap extent_of (sym (declared_by_line all kept (concept_tree y)))

          -- and with it all of its paths
          pub more_whole : AreFirst (declared_in all) all (extents ++ w ∷ [])
          more_whole = one_more_first (declared_in all) all extents (concept_tree y) w whole_first (ap (slice_get all) whole_count ∙ there) whole_is

          pub whole_size : length (extents ++ w ∷ []) ≡ suc n
          whole_size = let a = length-append extents (w ∷ []) in omega (arith, a, whole_count)
