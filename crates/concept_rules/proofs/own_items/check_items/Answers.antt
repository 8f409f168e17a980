use Rattle.std.proofs.Common.{◌≡◌, ℕ, ◌<◌, List, get_or, ◌∙◌, ap, sym, subst, length, arith}
use Rattle.std.proofs.lemmas.List.{length-map, get_or_default}
use Rattle.std.proofs.lemmas.Result.{err_from_is_err_and}
use Rattle.utopist_syntax.specs.declared.item.Item.{Item}
use Rattle.utopist_syntax.specs.FileTree.{item_tree}
use Rattle.concept_rules.specs.Declarations.{declared}
use Rattle.concept_rules.specs.steps.DeclaredNames.{DeclaresAll}
use Rattle.concept_rules.specs.steps.Extent.{extent}
use Rattle.concept_rules.proofs.Within.{start}
use Rattle.concept_rules.proofs.NextItem.{own_is, at_place, point, next_item, item_fails, all_checked, after_items}
use Rattle.concept_rules.proofs.own_items.check_items.Goals as goal

-- what is read twice at one place is the same
same_read :
    {X : Type 0} (xs : List X) (i : ℕ) (x y : X) → i < length xs → x ≡ get_or xs i x
    → y ≡ get_or xs i y → y ≡ x
same_read xs i x y lt e d = d ∙ get_or_default xs i y x lt ∙ sym e

pub loop-place-init : goal.loop-place-init
loop-place-init c = λ all before line cs at il here. start all _ before line cs il _ _ _ _ here at

pub loop-place-preserved : goal.loop-place-preserved
loop-place-preserved c = λ all before line cs at il here.
    let p = c.loop-place.invariant all before line cs at il here in
    let own = own_is all _ _ c.index-current-current.result _ at.all c.requires.which c.as_slice-items.ensures in
    let there = at_place _ _ _ _ own c.loop-place-test.true c.index-items-place.is in
    let ok = c.in_ok-bound.ensures.rules (extent all c.args.current.now.which before c.loop-place.place) _ p.found (point all _ before _ _ _ _ _ cs line il here p) in
    let same = same_read _ _ _ _ c.loop-place-test.true c.index-items-place.is c.index-items-place-in-loop-place.is in
    next_item all _ before _ _ _ _ _ cs line il here p _ there c.declare.new.declared _ ok
    (subst (λ (x : Item). DeclaresAll c.loop-place.declared c.declare.new.declared c.args.current.now.which c.loop-place.place (declared (item_tree x))) same c.in_ok-declare.ensures.names)
    c.declare.ensures.bound _ c.in_ok-bound.ensures.bound c.in_ok-bind.ensures

pub returns-in_err-bound-clause-rules : goal.returns-in_err-bound-clause-rules
returns-in_err-bound-clause-rules c = λ all before line cs at il here.
    let p = c.loop-place.invariant all before line cs at il here in
    let own = own_is all _ _ c.index-current-current.result _ at.all c.requires.which c.as_slice-items.ensures in
    let there = at_place _ _ _ _ own c.loop-place-test.true c.index-items-place.is in
    let r = err_from_is_err_and c.from_residual.result c.from_residual.ensures.1 in
    rw (r.1, r.2)
    (item_fails all _ before _ _ _ _ _ cs line il here p _ there c.in_err-bound.field-0.0 (c.in_err-bound.ensures.rules (extent all c.args.current.now.which before c.loop-place.place) _ p.found (point all _ before _ _ _ _ _ cs line il here p)))

pub returns-clause-rules : goal.returns-clause-rules
returns-clause-rules c = λ all before line cs at il here.
    let p = c.loop-place.invariant all before line cs at il here in
    let own = own_is all _ _ c.index-current-current.result _ at.all c.requires.which c.as_slice-items.ensures in
    let long = ap length own ∙ length-map c.as_slice-items.result.now item_tree in
    let past = c.loop-place-test.false in
    all_checked all _ before _ _ _ _ _ cs line il here p (omega (arith, long, past))

pub returns-clause-next : goal.returns-clause-next
returns-clause-next c = λ all before line cs at il here.
    let p = c.loop-place.invariant all before line cs at il here in
    let own = own_is all _ _ c.index-current-current.result _ at.all c.requires.which c.as_slice-items.ensures in
    let long = ap length own ∙ length-map c.as_slice-items.result.now item_tree in
    let past = c.loop-place-test.false in
    let within = c.loop-place.auto.place-end in
    after_items all _ before _ _ _ _ _ cs line il here p (omega (arith, long, past, within))
