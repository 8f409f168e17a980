use Rattle.std.proofs.Common.{length, pos, ap, ◌∙◌}
use Rattle.std.specs.Prelude.{replicate}
use Rattle.std.proofs.lemmas.List.{length-replicate}
use Rattle.priz_frac.specs.Whole.{whole}
use Rattle.statement_set.specs.Problem.{var_count, given_vars}
use Rattle.proof_term.proofs.RunningSteps.{values_length}
use Rattle.proof_term.proofs.runner.run_block.Goals as goal

pub run_steps-requires-clause-env : goal.run_steps-requires-clause-env
run_steps-requires-clause-env c =
    let p = c.args.problem.now in
    let n = var_count p in
    ap length (c.as_mut_slice.ensures.value ∙ c.in_ok-env.ensures) ∙ values_length (replicate n (whole (pos 0))) (given_vars p) c.args.values.now ∙ length-replicate n (whole (pos 0))
