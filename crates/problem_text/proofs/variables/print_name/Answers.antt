use Rattle.std.proofs.Common.{◌++◌, ap, sym, ◌∙◌}
use Rattle.problem_text.proofs.Names.{name_is}
use Rattle.problem_text.proofs.variables.print_name.Goals as goal

pub returns : goal.returns
returns c =
    let named = name_is c.args.problem.now c.args.var c.name.result.now c.name.ensures in
    c.in_ok-extend_from_slice.ensures.items ∙ ap (λ n. c.args.out.now.items ++ n) (c.as_bytes.ensures.value ∙ sym named)
