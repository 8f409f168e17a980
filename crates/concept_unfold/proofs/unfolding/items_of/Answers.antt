use Rattle.std.proofs.Common.{◌≡◌, ◌+◌, ◌<◌, ℕ, true, false, List, ◌∷◌, length, get_or, map, drop, refl, sym, ap, ◌∙◌}
use Rattle.std.specs.Str.{bytes_eq}
use Rattle.std.proofs.lemmas.List.{drop_all}
use Rattle.priz_base.proofs.More.{drop_at}
use Rattle.utopist_syntax.specs.declared.concept.Concept.{Concept}
use Rattle.utopist_syntax.specs.FileTree.{item_tree, concept_tree}
use Rattle.concept_unfold.specs.Declarations.{items_of}
use Rattle.concept_unfold.proofs.unfolding.items_of.Goals as goal

-- the concept at the index has the name, or one behind it
module _ (cs : List Concept) (name : List ℕ) (i : ℕ) (x : Concept) (lt : i < length cs) (is : x ≡ get_or cs i x) (text : List ℕ) (same : text ≡ x.name.text) (so_far : items_of (map concept_tree cs) name ≡ items_of (map concept_tree (drop i cs)) name) where
  from_here : items_of (map concept_tree cs) name ≡ items_of (map concept_tree (x ∷ drop (i + 1) cs)) name
  from_here = so_far ∙ ap (λ (ys : List Concept). items_of (map concept_tree ys) name) (drop_at cs i x lt is)

  it_is : bytes_eq text name ≡ true → items_of (map concept_tree cs) name ≡ map item_tree x.items
  it_is e = let here = rw same at e in from_here ∙ rw here refl

  it_is_not : bytes_eq text name ≡ false → items_of (map concept_tree cs) name ≡ items_of (map concept_tree (drop (i + 1) cs)) name
  it_is_not e = let here = rw same at e in from_here ∙ rw here refl

pub returns-then-eq : goal.returns-then-eq
returns-then-eq c =
    ap (map item_tree) c.as_slice.ensures
    ∙ sym (it_is c.args.concepts.now c.args.name.now c.loop-concept.concept-index c.concept-item.result c.loop-concept-test.true c.concept-item.is c.text.result.now c.text.ensures c.loop-concept.invariant (sym c.if-eq.ensures))

pub loop-concept-preserved : goal.loop-concept-preserved
loop-concept-preserved c =
    it_is_not c.args.concepts.now c.args.name.now c.loop-concept.concept-index c.concept-item.result c.loop-concept-test.true c.concept-item.is c.text.result.now c.text.ensures c.loop-concept.invariant (sym c.if-eq.ensures)

pub returns : goal.returns
returns c =
    sym (c.loop-concept.invariant ∙ ap (λ (ys : List Concept). items_of (map concept_tree ys) c.args.name.now) (drop_all c.loop-concept.concept-index c.args.concepts.now c.loop-concept-test.false))
