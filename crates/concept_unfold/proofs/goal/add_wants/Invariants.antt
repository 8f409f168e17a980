use Rattle.std.proofs.Common.{◌≡◌, map, take}
use Rattle.concept_unfold.specs.Unfolded.{var_number}
use Rattle.concept_unfold.proofs.goal.add_wants.Given as goal

abbrev pub invariant-loop-path : goal.invariant-loop-path
invariant-loop-path l = record {
  same : l.problem ≡ record l.fn.problem { wants = l.problem.wants };
  wants : l.problem.wants ≡ map (var_number l.fn.problem.names) (take l.path-index l.paths);
}
