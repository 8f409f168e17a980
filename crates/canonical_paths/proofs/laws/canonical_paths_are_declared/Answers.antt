use Rattle.canonical_paths.proofs.CanonicalDeclared.{canonical_declared}
use Rattle.canonical_paths.proofs.laws.canonical_paths_are_declared.Goals as goal

pub returns : goal.returns
returns c = canonical_declared
