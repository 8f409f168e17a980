use Rattle.canonical_paths.proofs.DistinctPaths.{declared_differ}
use Rattle.canonical_paths.proofs.laws.declared_paths_differ.Goals as goal

pub returns : goal.returns
returns c = declared_differ
