use Rattle.std.proofs.Common.{ℕ, ap, ◌∙◌}
use Rattle.std.specs.Prelude.{not, ◌==◌}
use Rattle.std.specs.List.{filter, position_or_len}
use Rattle.body_lang.specs.View.{body_tree}
use Rattle.body_lang.proofs.BodyTrees.{op_tree}
use Rattle.equation_statements.specs.SolvingStatements.{renumbered}
use Rattle.equation_statements.proofs.renumbering.+over_places.Goals as goal

pub returns-in_ok-new-in-Op-2 : goal.returns-in_ok-new-in-Op-2
returns-in_ok-new-in-Op-2 t c =
    let f = λ (w : ℕ). position_or_len (λ (u : ℕ). u == w) (filter (λ (u : ℕ). not (u == c.args.v)) c.args.variables.now) in
    let was = ap (renumbered f) (ap body_tree c.in-Op.is ∙ op_tree c.in-Op.op c.in-Op.left c.in-Op.right) in
    let is = op_tree c.in-Op.op c.in_ok-new-in-Op.field-0 c.in_ok-new-in-Op-2.field-0 in
    let left = c.in_ok-left-in-Op.ensures in
    let right = c.in_ok-right-in-Op.ensures in
    cc (was, is, left, right, c.get-in-Op.ensures, c.get-in-Op-2.ensures, c.in_ok-new-in-Op.ensures, c.in_ok-new-in-Op-2.ensures)
