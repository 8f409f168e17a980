use Rattle.std.proofs.Common.{◌≡◌}
use Rattle.priz_base.specs.Sets.{IsWithin}
use Rattle.statement_set.specs.Problem.{given_vars, var_count, AreVars}
use Rattle.proof_term.specs.Proof.{proves}
use Rattle.answer_core.proofs.Left.{left}
use Rattle.answer_core.proofs.search.search.Given as goal

-- the block gives all that is known, and what is given is known
abbrev pub invariant-learning : goal.invariant-learning
invariant-learning l = record {
  task : l.closure.task ≡ l.problem;
  given : IsWithin (given_vars l.problem) l.closure.known;
  vars : AreVars (var_count l.problem) l.closure.known;
  proof : proves l.problem (given_vars l.problem) l.block l.closure.known;
}

abbrev pub decreases-learning : goal.decreases-learning
decreases-learning l = left l.closure.known l.problem.statements
