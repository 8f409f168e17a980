use Rattle.std.proofs.Common.{◌≡◌, length, drop, None}
use Rattle.statement_set.specs.Problem.{var_count}
use Rattle.proof_term.specs.Plain.{steps_of}
use Rattle.proof_term.specs.Bodies.{first_without_body}
use Rattle.proof_term.specs.Running.{run}
use Rattle.proof_term.proofs.runner.run_steps.Given as goal

-- the steps that are left give what all of them give
abbrev pub invariant-loop-step : goal.invariant-loop-step
invariant-loop-step l = record {
  rest : run l.problem (steps_of l.steps) l.fn.env l.turns ≡ run l.problem (steps_of (drop l.step-index l.steps)) l.env l.left;
  bodies : first_without_body l.problem (steps_of (drop l.step-index l.steps)) ≡ None;
  room : length l.env ≡ var_count l.problem;
}
