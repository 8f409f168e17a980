use Rattle.std.proofs.Common.{◌++◌, append-nil, sym, ap, ◌∙◌}
use Rattle.problem_text.proofs.Names.{no_input_name}
use Rattle.problem_text.proofs.body.print_input.Goals as goal

pub returns-in-None : goal.returns-in-None
returns-in-None c =
    let none = no_input_name c.args.scope.now.problem.now c.args.scope.now.inputs.now c.args.input (sym c.in-None.ensures) in
    sym (append-nil c.args.out.now.items) ∙ ap (λ n. c.args.out.now.items ++ n) (sym none)
