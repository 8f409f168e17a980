use Rattle.std.proofs.Common.{ℕ, List, ◌++◌, sym, ap, ◌∙◌, append_assoc}
use Rattle.body_lang.specs.BodyTree.{BodyTree}
use Rattle.body_lang.specs.declared.body.Body.{Body}
use Rattle.body_lang.specs.View.{body_tree}
use Rattle.body_lang.proofs.BodyTrees.{input_tree, op_tree}
use Rattle.equation_statements.specs.SolvingStatements.{variables_in, firsts}
use Rattle.equation_statements.specs.steps.Places.{with_one_more}
use Rattle.equation_statements.proofs.Firsts.{firsts_push}
use Rattle.equation_statements.proofs.Solving.{on_ok}
use Rattle.equation_statements.proofs.statements.+add_variables.Goals as goal

pub returns-in-Input : goal.returns-in-Input
returns-in-Input t c = λ before is.
    let tree = ap body_tree c.in-Input.is ∙ input_tree c.in-Input.v in
    on_ok c.add.result c.add.ensures.ok (λ h.
    h
    ∙ ap (λ (vs : List ℕ). with_one_more vs c.in-Input.v) is
    ∙ sym (firsts_push before c.in-Input.v)
    ∙ sym (ap (λ (b : BodyTree). firsts (before ++ variables_in b)) tree))

pub returns-in_ok-add_variables-in-Op : goal.returns-in_ok-add_variables-in-Op
returns-in_ok-add_variables-in-Op t c = λ before is.
    let tree = ap body_tree c.in-Op.is ∙ op_tree c.in-Op.op c.in-Op.left c.in-Op.right in
    let first = variables_in (body_tree c.get-in-Op.result.now) in
    let second = variables_in (body_tree c.get-in-Op-2.result.now) in
    on_ok c.add_variables-in-Op-2.result (c.add_variables-in-Op-2.ensures (before ++ first) (c.in_ok-add_variables-in-Op.ensures before is)) (λ h.
    h
    ∙ ap firsts (append_assoc before first second)
    ∙ ap (λ (b : Body). firsts (before ++ (variables_in (body_tree b) ++ second))) c.get-in-Op.ensures
    ∙ ap (λ (b : Body). firsts (before ++ (variables_in (body_tree c.in-Op.left) ++ variables_in (body_tree b)))) c.get-in-Op-2.ensures
    ∙ sym (ap (λ (b : BodyTree). firsts (before ++ variables_in b)) tree))
