use Rattle.std.proofs.Common.{◌≡◌, ◌++◌, take}
use Rattle.std.specs.List.{flat_map}
use Rattle.utopist_syntax.specs.ComputeText.{compute_text}
use Rattle.utopist_syntax.proofs.print_file.print_computes.Given as goal

abbrev pub invariant-loop-compute : goal.invariant-loop-compute
invariant-loop-compute l = l.out.items ≡ l.fn.out.items ++ flat_map compute_text (take l.compute-index l.computes)
