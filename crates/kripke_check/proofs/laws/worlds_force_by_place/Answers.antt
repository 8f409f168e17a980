use Rattle.kripke_check.proofs.ByPlace.{by_place}
use Rattle.kripke_check.proofs.laws.worlds_force_by_place.Goals as goal

pub returns : goal.returns
returns c = λ L i w A e. by_place L i w A e
