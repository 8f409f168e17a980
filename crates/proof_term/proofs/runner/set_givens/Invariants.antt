use Rattle.std.proofs.Common.{◌≡◌, length, drop}
use Rattle.statement_set.specs.Problem.{given_vars}
use Rattle.proof_term.specs.Running.{with_values}
use Rattle.proof_term.proofs.runner.set_givens.Given as goal

-- the givens that are left make of the environment what all of them make of the first one
abbrev pub invariant-loop-i : goal.invariant-loop-i
invariant-loop-i l = record {
  rest : with_values l.fn.env (given_vars l.problem) l.values ≡ with_values l.env (drop l.i (given_vars l.problem)) (drop l.i l.values);
  room : length l.env ≡ length l.fn.env;
}
