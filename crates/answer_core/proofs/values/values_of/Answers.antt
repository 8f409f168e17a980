use Rattle.std.proofs.Common.{◌∙◌, sym}
use Rattle.answer_core.proofs.Numbers.{all_numbered, numbers_exist}
use Rattle.answer_core.proofs.values.values_of.Goals as goal

pub returns-in-Some-first_without_body : goal.returns-in-Some-first_without_body
returns-in-Some-first_without_body c =
    let gs = c.args.problem.now.givens in
    let numbers = numbers_exist gs (all_numbered gs (sym c.first_without_number.ensures ∙ c.in_default.is)) in
    (numbers.0, numbers.1, sym c.first_without_body.ensures ∙ c.in-Some-first_without_body.is)
