use Rattle.std.proofs.Common.{◌≡◌, map, take}
use Rattle.body_lang.specs.Values.{value_at}
use Rattle.proof_term.proofs.runner.values_at.Given as goal

abbrev pub invariant-loop-var : goal.invariant-loop-var
invariant-loop-var l = l.values.items ≡ map (value_at l.env) (take l.var-index l.vars)
