use Rattle.std.proofs.Common.{◌≡◌, ℕ, Bool, true, false, cond, List, [], ◌∷◌, length, min, refl, sym, ap, ◌∙◌, arith}
use Rattle.std.specs.Prelude.{not}
use Rattle.std.specs.List.{filter}
use Rattle.body_lang.specs.BodyTree.{BodyTree}
use Rattle.body_lang.specs.declared.body.Body.{Body}
use Rattle.body_lang.specs.View.{body_tree}
use Rattle.body_lang.proofs.BodyTrees.{input_tree, neg_tree, op_tree}
use Rattle.equation_statements.specs.SolvingStatements.{variables_in}
use Rattle.equation_statements.proofs.Counting.{is_out, out_is, out_append}
use Rattle.equation_statements.proofs.counts.+count_without.Goals as goal

-- the inputs of a tree that stand for none of them, up to the last value
abbrev up_to_last : List ℕ → BodyTree → ℕ
up_to_last vs t = min 18446744073709551615 (length (filter (is_out vs) (variables_in t)))

-- what an input counts, where its variable is out of the set or not
abbrev counted : ℕ → Bool → ℕ
counted v out = min 18446744073709551615 (length (cond out (v ∷ []) []))

pub returns-then-has : goal.returns-then-has
returns-then-has t c =
    let v = c.in-Input.v in
    let within : counted v false ≡ 0 = refl in
    sym within
    ∙ ap (λ (b : Bool). counted v (not b)) (sym c.if-has.true)
    ∙ ap (counted v) (out_is c.args.set.now v c.has.result c.has.ensures)
    ∙ sym (ap (up_to_last c.args.set.now) (ap body_tree c.in-Input.is ∙ input_tree v))

pub returns-else-has : goal.returns-else-has
returns-else-has t c =
    let v = c.in-Input.v in
    let out : counted v true ≡ 1 = refl in
    sym out
    ∙ ap (λ (b : Bool). counted v (not b)) (sym c.if-has.false)
    ∙ ap (counted v) (out_is c.args.set.now v c.has.result c.has.ensures)
    ∙ sym (ap (up_to_last c.args.set.now) (ap body_tree c.in-Input.is ∙ input_tree v))

pub returns-in-Neg : goal.returns-in-Neg
returns-in-Neg t c =
    c.count_without.ensures
    ∙ ap (λ (b : Body). up_to_last c.args.set.now (body_tree b)) c.get.ensures
    ∙ sym (ap (up_to_last c.args.set.now) (ap body_tree c.in-Neg.is ∙ neg_tree c.in-Neg.part))

pub returns-in-Op : goal.returns-in-Op
returns-in-Op t c =
    let vs = c.args.set.now in
    let tree = ap (up_to_last vs) (ap body_tree c.in-Op.is ∙ op_tree c.in-Op.op c.in-Op.left c.in-Op.right) in
    let left = c.count_without-left.ensures ∙ ap (λ (b : Body). up_to_last vs (body_tree b)) c.get-in-Op.ensures in
    let right = c.count_without-in-Op.ensures ∙ ap (λ (b : Body). up_to_last vs (body_tree b)) c.get-in-Op-2.ensures in
    let both = out_append vs (variables_in (body_tree c.in-Op.left)) (variables_in (body_tree c.in-Op.right)) in
    omega (arith, tree, left, right, both, c.saturating_add.ensures)
