use Rattle.canonical_paths.proofs.CheckedConcepts.{checked_are_scoped}
use Rattle.canonical_paths.proofs.laws.checked_concepts_are_scoped.Goals as goal

pub returns : goal.returns
returns c = checked_are_scoped
