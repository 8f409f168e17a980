use Rattle.canonical_paths.proofs.Beginnings.{canonical_begins}
use Rattle.canonical_paths.proofs.CanonicalAgain.{canonical_again}
use Rattle.canonical_paths.proofs.laws.canonical_paths_stand_for_themselves.Goals as goal

pub returns-clause-beginnings : goal.returns-clause-beginnings
returns-clause-beginnings c = canonical_begins

pub returns-clause-whole : goal.returns-clause-whole
returns-clause-whole c = canonical_again
