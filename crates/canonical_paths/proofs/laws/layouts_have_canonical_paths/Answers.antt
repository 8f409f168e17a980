use Rattle.canonical_paths.proofs.WholeConcepts.{whole_concept, whole_is_closed}
use Rattle.canonical_paths.proofs.laws.layouts_have_canonical_paths.Goals as goal

pub returns-clause-names : goal.returns-clause-names
returns-clause-names c = whole_concept

pub returns-clause-closed : goal.returns-clause-closed
returns-clause-closed c = whole_is_closed
