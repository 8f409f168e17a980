use Rattle.std.proofs.Common.{◌≡◌, ◌↔◌, ℕ, [], map, take, drop}
use Rattle.std.specs.Prelude.{Contains}
use Rattle.name_sets.specs.Paths.{texts}
use Rattle.statement_set.specs.Problem.{given_vars}
use Rattle.concept_unfold.specs.Paths.{given_names}
use Rattle.concept_unfold.specs.UnfoldingRules.{once_fault}
use Rattle.concept_unfold.specs.Unfolded.{given_of}
use Rattle.concept_unfold.proofs.goal.add_givens.Given as goal

-- the givens that are left decide
abbrev pub invariant-loop-given : goal.invariant-loop-given
invariant-loop-given l = record {
  same : l.problem ≡ record l.fn.problem { givens = l.problem.givens };
  givens : l.problem.givens ≡ map (given_of l.fn.problem.names) (take l.given-index l.givens);
  seen : (n : ℕ) → Contains l.seen n ↔ Contains (given_vars l.problem) n;
  left : once_fault [] (given_names l.givens)
      ≡ once_fault (texts (given_names (take l.given-index l.givens))) (given_names (drop l.given-index l.givens));
}
