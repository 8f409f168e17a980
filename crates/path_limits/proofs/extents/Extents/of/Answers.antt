use Rattle.std.proofs.Common.{rules, ◌≡◌, ◌<◌, ◌+◌, ℕ, suc, List, [], ◌∷◌, ◌++◌, map, length, get_or, Some, sym, ap, ◌∙◌, subst, arith}
use Rattle.std.specs.Prelude.{slice_get}
use Rattle.std.specs.List.{flat_map}
use Rattle.std.proofs.lemmas.List.{length-map}
use Rattle.utopist_syntax.specs.declared.item.Item.{Item}
use Rattle.utopist_syntax.specs.FileTree.{ConceptTree, item_tree, concept_tree}
use Rattle.canonical_paths.specs.PathNames.{PathNames}
use Rattle.canonical_paths.specs.DeclaredPaths.{item_paths}
use Rattle.canonical_paths.specs.Components.{declared_in}
use Rattle.path_limits.specs.declared.extent.PathExtent.{PathExtent}
use Rattle.path_limits.specs.Extents.{extent_of}
use Rattle.path_limits.specs.steps.Measured.{AreMeasured, AreOf, own_paths, AreFirst}
use Rattle.path_limits.proofs.FirstExtents.{all_first}
use Rattle.path_limits.proofs.Measuring.{more_own, own_size, line_measured, more_whole, whole_size}
use Rattle.path_limits.proofs.extents.Extents.of.Goals as goal

-- src/extents.rt:51:26
pub extent_of_line-requires : goal.extent_of_line-requires
extent_of_line-requires c =
    let i = c.loop-concept.invariant in
    let measured = λ (inside : List ℕ → List PathNames) (h : AreMeasured inside c.args.lineages.now.names c.loop-concept.extents (map item_tree c.concept-item.result.items)).
    c.extent_of_items.ensures inside
    (subst (λ (es : List PathExtent). AreMeasured inside c.args.lineages.now.names es (map item_tree c.as_slice-in-loop-concept.result.now)) (sym c.as_slice.ensures)
    (subst (λ (is : List Item). AreMeasured inside c.args.lineages.now.names c.loop-concept.extents (map item_tree is)) (sym c.as_slice-in-loop-concept.ensures) h))
    ∙ ap (λ (is : List Item). extent_of (flat_map (item_paths inside) (map item_tree is))) c.as_slice-in-loop-concept.ensures in
    let line = subst (λ (k : ℕ). slice_get c.args.lineages.now.lines k ≡ Some c.line_of-line.result.now) (c.len.ensures ∙ i.whole_count) c.line_of-line.ensures in
    λ k d lt.
    subst (λ (own : List PathExtent). get_or c.line_of-line.result.now k d < length own) (sym (c.as_slice-in-loop-concept-2.ensures ∙ c.in_ok-push.ensures.ok))
    (line_measured c.args.concepts.now c.requires.kept c.args.lineages.now c.requires.lineages c.loop-concept.concept-index c.loop-concept-test.true c.concept-item.result _ c.concept-item.is
    c.loop-concept.own c.loop-concept.extents i.own i.own_count i.whole i.whole_count c.extent_of_items.result measured c.line_of-line.result.now line k d lt)

-- src/extents.rt:48:9
pub loop-concept-preserved : goal.loop-concept-preserved
loop-concept-preserved c =
    let i = c.loop-concept.invariant in
    let measured = λ (inside : List ℕ → List PathNames) (h : AreMeasured inside c.args.lineages.now.names c.loop-concept.extents (map item_tree c.concept-item.result.items)).
    c.extent_of_items.ensures inside
    (subst (λ (es : List PathExtent). AreMeasured inside c.args.lineages.now.names es (map item_tree c.as_slice-in-loop-concept.result.now)) (sym c.as_slice.ensures)
    (subst (λ (is : List Item). AreMeasured inside c.args.lineages.now.names c.loop-concept.extents (map item_tree is)) (sym c.as_slice-in-loop-concept.ensures) h))
    ∙ ap (λ (is : List Item). extent_of (flat_map (item_paths inside) (map item_tree is))) c.as_slice-in-loop-concept.ensures in
    let line = subst (λ (k : ℕ). slice_get c.args.lineages.now.lines k ≡ Some c.line_of-line.result.now) (c.len.ensures ∙ i.whole_count) c.line_of-line.ensures in
    let joined = λ (paths : ConceptTree → List PathNames) (cs : List ConceptTree) (h : AreOf paths (c.loop-concept.own ++ c.extent_of_items.result ∷ []) c.line_of-line.result.now cs).
    c.extent_of_line.ensures paths cs (subst (λ (own : List PathExtent). AreOf paths own c.line_of-line.result.now cs) (sym (c.as_slice-in-loop-concept-2.ensures ∙ c.in_ok-push.ensures.ok)) h) in
    let own_is = own_size c.args.concepts.now c.requires.kept c.args.lineages.now c.requires.lineages c.loop-concept.concept-index c.loop-concept-test.true c.concept-item.result _ c.concept-item.is
    c.loop-concept.own c.loop-concept.extents i.own i.own_count i.whole i.whole_count c.extent_of_items.result measured in
    let whole_is = whole_size c.args.concepts.now c.requires.kept c.args.lineages.now c.requires.lineages c.loop-concept.concept-index c.loop-concept-test.true c.concept-item.result _ c.concept-item.is
    c.loop-concept.own c.loop-concept.extents i.own i.own_count i.whole i.whole_count c.extent_of_items.result measured c.line_of-line.result.now line c.extent_of_line.result joined in
    record {
      own = subst (AreFirst (own_paths (map concept_tree c.args.concepts.now)) (map concept_tree c.args.concepts.now)) (sym c.in_ok-push.ensures.ok)
          (more_own c.args.concepts.now c.requires.kept c.args.lineages.now c.requires.lineages c.loop-concept.concept-index c.loop-concept-test.true c.concept-item.result _ c.concept-item.is
          c.loop-concept.own c.loop-concept.extents i.own i.own_count i.whole i.whole_count c.extent_of_items.result measured);
      own_count = let e = ap length c.in_ok-push.ensures.ok in omega (arith, e, own_is);
      whole = subst (AreFirst (declared_in (map concept_tree c.args.concepts.now)) (map concept_tree c.args.concepts.now)) (sym c.in_ok-push-2.ensures.ok)
          (more_whole c.args.concepts.now c.requires.kept c.args.lineages.now c.requires.lineages c.loop-concept.concept-index c.loop-concept-test.true c.concept-item.result _ c.concept-item.is
          c.loop-concept.own c.loop-concept.extents i.own i.own_count i.whole i.whole_count c.extent_of_items.result measured c.line_of-line.result.now line c.extent_of_line.result joined);
      whole_count = let e = ap length c.in_ok-push-2.ensures.ok in omega (arith, e, whole_is);
    }

-- src/extents.rt:41:5
pub returns : goal.returns
returns c =
    let i = c.loop-concept.invariant in
    let size = length-map c.args.concepts.now concept_tree in
    let test = c.loop-concept-test.false in
    let end = c.loop-concept.auto.concept-index-end in
    all_first (declared_in (map concept_tree c.args.concepts.now)) (map concept_tree c.args.concepts.now) c.loop-concept.extents i.whole (omega (arith, i.whole_count, size, test, end))
