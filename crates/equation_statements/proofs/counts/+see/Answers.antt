use Rattle.std.proofs.Common.{◌+◌, sym, ap, ◌∙◌, subst, arith}
use Rattle.std.specs.Prelude.{Contains}
use Rattle.body_lang.specs.BodyTree.{BodyTree}
use Rattle.body_lang.specs.declared.body.Body.{Body}
use Rattle.body_lang.specs.Occurrences.{occurrences}
use Rattle.body_lang.specs.View.{body_tree}
use Rattle.body_lang.proofs.BodyTrees.{input_tree, neg_tree, op_tree}
use Rattle.equation_statements.specs.declared.counts.Sightings.{Sightings}
use Rattle.equation_statements.specs.steps.Sightings.{IsSeen}
use Rattle.equation_statements.proofs.Counting.{seen_again, seen_once}
use Rattle.equation_statements.proofs.counts.+see.Goals as goal

pub returns-then-has : goal.returns-then-has
returns-then-has t c = λ v n h.
    let there = c.has.ensures.0 c.if-has.true in
    let s : Sightings = record { once = c.args.seen.now.once; again = c.add.new.self } in
    subst (λ (b : BodyTree). IsSeen s v (n + occurrences v b)) (sym (ap body_tree c.in-Input.is ∙ input_tree c.in-Input.v))
    (seen_again c.args.seen.now c.in-Input.v c.add.new.self there c.add.ensures v n h)

pub returns-else-has : goal.returns-else-has
returns-else-has t c = λ v n h.
    let new = λ (there : Contains c.args.seen.now.once c.in-Input.v). let wrong = sym c.if-has.false ∙ c.has.ensures.1 there in absurd (cc) in
    let s : Sightings = record { once = c.add-else-has.new.self; again = c.args.seen.now.again } in
    subst (λ (b : BodyTree). IsSeen s v (n + occurrences v b)) (sym (ap body_tree c.in-Input.is ∙ input_tree c.in-Input.v))
    (seen_once c.args.seen.now c.in-Input.v c.add-else-has.new.self new c.add-else-has.ensures v n h)

pub returns-in-Neg : goal.returns-in-Neg
returns-in-Neg t c = λ v n h.
    let tree = ap (occurrences v) (ap body_tree c.in-Neg.is ∙ neg_tree c.in-Neg.part) in
    let part = ap (λ (b : Body). occurrences v (body_tree b)) c.get.ensures in
    subst (IsSeen c.see.new.seen v) (omega (arith, tree, part)) (c.see.ensures v n h)

pub returns-in-Op : goal.returns-in-Op
returns-in-Op t c = λ v n h.
    let tree = ap (occurrences v) (ap body_tree c.in-Op.is ∙ op_tree c.in-Op.op c.in-Op.left c.in-Op.right) in
    let left = ap (λ (b : Body). occurrences v (body_tree b)) c.get-in-Op.ensures in
    let right = ap (λ (b : Body). occurrences v (body_tree b)) c.get-in-Op-2.ensures in
    let first = c.see-in-Op.ensures v n h in
    let second = c.see-in-Op-2.ensures v (n + occurrences v (body_tree c.get-in-Op.result.now)) first in
    subst (IsSeen c.see-in-Op-2.new.seen v) (omega (arith, tree, left, right)) second
