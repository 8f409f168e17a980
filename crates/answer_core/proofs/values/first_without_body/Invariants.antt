use Rattle.std.proofs.Common.{◌≡◌, drop}
use Rattle.proof_term.specs.Plain.{steps_of}
use Rattle.proof_term.specs.Bodies.{first_without_body}
use Rattle.answer_core.proofs.values.first_without_body.Given as goal

-- the first stands among the steps that are left
abbrev pub invariant-loop-step : goal.invariant-loop-step
invariant-loop-step l = record {
  all : l.block ≡ steps_of l.step-items;
  rest : first_without_body l.problem l.block ≡ first_without_body l.problem (steps_of (drop l.step-index l.step-items));
}
