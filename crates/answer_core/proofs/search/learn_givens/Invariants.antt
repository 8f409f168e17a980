use Rattle.std.proofs.Common.{◌≡◌, ◌↔◌, ℕ, map, take}
use Rattle.std.specs.Prelude.{Contains}
use Rattle.statement_set.specs.declared.given.Given.{Given}
use Rattle.answer_core.proofs.search.learn_givens.Given as goal

abbrev pub invariant-loop-given : goal.invariant-loop-given
invariant-loop-given l = record {
  task : l.closure.task ≡ l.problem;
  known : (n : ℕ) → Contains l.closure.known n ↔ Contains (map (λ (g : Given). g.var) (take l.given-index l.given-items)) n;
}
