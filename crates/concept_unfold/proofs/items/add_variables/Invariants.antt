use Rattle.std.proofs.Common.{◌≡◌, ◌++◌, drop}
use Rattle.name_sets.specs.Paths.{texts}
use Rattle.concept_unfold.specs.steps.Plain.{AreFresh}
use Rattle.concept_unfold.proofs.items.add_variables.Given as goal

abbrev pub invariant-loop-name : goal.invariant-loop-name
invariant-loop-name l = record {
  same : l.problem ≡ record l.fn.problem { names = l.problem.names };
  names : l.problem.names ++ texts (drop l.name-index l.names) ≡ l.fn.problem.names ++ texts l.names;
  fresh : AreFresh l.problem.names (drop l.name-index l.names);
}
