use Rattle.statement_set.proofs.Spelt.{place_found, place_is}
use Rattle.statement_set.proofs.names.Names.place.Goals as goal

pub returns-clause-found : goal.returns-clause-found
returns-clause-found c =
    rw (← c.self.view_is) (place_found c.self.inside.set.keys c.args.name.now c.get_index_of.result c.get_index_of.ensures.index c.get_index_of.ensures.found)

pub returns-clause-place : goal.returns-clause-place
returns-clause-place c =
    rw (← c.self.view_is) (place_is c.self.inside.set.keys c.args.name.now c.get_index_of.result c.get_index_of.ensures.index)
