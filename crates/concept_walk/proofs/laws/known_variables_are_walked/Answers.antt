use Rattle.concept_walk.proofs.WalkedPaths.{known_walked}
use Rattle.concept_walk.proofs.laws.known_variables_are_walked.Goals as goal

pub returns : goal.returns
returns c = known_walked
