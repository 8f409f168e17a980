use Rattle.concept_walk.proofs.KeptItems.{kept_are_known}
use Rattle.concept_walk.proofs.laws.items_are_known.Goals as goal

pub returns : goal.returns
returns c = kept_are_known
