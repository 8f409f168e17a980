use Rattle.std.proofs.Common.{subst}
use Rattle.answer_core.specs.declared.verdict.Answer.{Answer}
use Rattle.answer_core.specs.Answers.{IsAnswer}
use Rattle.answer_core.proofs.Numbers.{has_names}
use Rattle.answer_core.proofs.report.render.Goals as goal

pub write_values-requires : goal.write_values-requires
write_values-requires c =
    let p = c.args.problem.now in
    let right = c.requires.answer in
    let its = subst (λ (a : Answer). IsAnswer p right.0 a) c.in-Program.is right.1 in
    has_names p c.in-Program.block right.0.turns c.in-Program.values c.is_well_formed.ensures its.values
