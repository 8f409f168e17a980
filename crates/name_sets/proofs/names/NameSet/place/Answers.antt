use Rattle.std.proofs.Common.{List, ℕ, Bor}
use Rattle.name_sets.proofs.Spelt.{place_found, place_is}
use Rattle.name_sets.proofs.names.NameSet.place.Goals as goal

pub returns-clause-found : goal.returns-clause-found
returns-clause-found c =
    rw (← c.self.view_is) (place_found (λ (k : Bor (List ℕ)). k.now) c.self.inside.set.keys c.args.name.now c.get_index_of.result c.get_index_of.ensures.index c.get_index_of.ensures.found)

pub returns-clause-place : goal.returns-clause-place
returns-clause-place c =
    rw (← c.self.view_is) (place_is (λ (k : Bor (List ℕ)). k.now) c.self.inside.set.keys c.args.name.now c.get_index_of.result c.get_index_of.ensures.index)
