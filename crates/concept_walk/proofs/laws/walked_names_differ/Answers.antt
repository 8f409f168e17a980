use Rattle.concept_walk.proofs.WalkedNames.{names_differ}
use Rattle.concept_walk.proofs.laws.walked_names_differ.Goals as goal

pub returns : goal.returns
returns c = names_differ
