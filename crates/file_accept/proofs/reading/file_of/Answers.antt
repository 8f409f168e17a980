use Rattle.std.proofs.Common.{Some, None, subst}
use Rattle.std.specs.Str.{chars}
use Rattle.std.proofs.lemmas.Result.{err_from_is_err_and}
use Rattle.file_accept.specs.declared.unbuilt.LeftOut.{LeftOut}
use Rattle.file_accept.specs.Unbuilt.{LeftOutOf}
use Rattle.file_accept.proofs.Steps.{no_tree, built_form, unbuilt_form}
use Rattle.file_accept.proofs.reading.file_of.Goals as goal

pub returns-in_err-file-clause-form : goal.returns-in_err-file-clause-form
returns-in_err-file-clause-form c =
    let p = err_from_is_err_and c.from_residual.result c.from_residual.ensures.1 in
    rw (p.1, p.2) (no_tree c.args.text.now c.in_err-file.field-0.0 c.in_err-file.ensures.tree)

pub returns-clause-form : goal.returns-clause-form
returns-clause-form c =
    unbuilt_form c.args.text.now c.in_ok-file.file c.in-Some.place c.in_ok-file.ensures.tree
    (subst (λ (o : LeftOut). LeftOutOf o (chars c.args.text.now) (Some c.in-Some.place)) c.not_solved.ensures c.in-Some.ensures)

pub unreachable-requires : goal.unreachable-requires
unreachable-requires c =
    let none = subst (λ (o : LeftOut). LeftOutOf o (chars c.args.text.now) None) c.not_solved.ensures c.in-None.ensures in
    let built = (built_form c.args.text.now c.in_ok-file.file c.in_ok-file.ensures.tree none).1 in
    let yes = c.is_built.ensures.1 built in
    cc
