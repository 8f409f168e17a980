use Rattle.std.proofs.Common.{◌<◌, [], ◌∷◌, ap, sym, subst, arith, length-append}
use Rattle.std.specs.Prelude.{codes}
use Rattle.body_lang.specs.BodyTree.{BodyTree}
use Rattle.body_lang.proofs.BodyTrees.{input_tree}
use Rattle.statement_set.specs.Problem.{Task, var_count, IsEquationOver}
use Rattle.worked_problems.proofs.tests.equations_are_kept.Goals as goal

pub add_equation-requires : goal.add_equation-requires
add_equation-requires g c =
    let n = var_count c.add_var.new.self in
    let there : 0 < n = omega (arith, ap var_count c.in_ok-add_var.ensures.ok, length-append c.new-p.result.names (codes "x" ∷ [])) in
    subst (λ (t : BodyTree). IsEquationOver n (record { left = t; right = t })) (sym (input_tree 0)) (record { arithmetic = (tt, tt); left = there; right = there })
