use Rattle.concept_walk.proofs.Outermost.{path_outermost, outermost_place, outermost_next, outermost_found}
use Rattle.concept_walk.proofs.walk.walk_concept.Goals as goal

-- src/walk.rt:43:5
pub walk_component-requires-clause-component : goal.walk_component-requires-clause-component
walk_component-requires-clause-component c = outermost_place c.args.walk.now c.requires _ path_outermost

-- src/walk.rt:43:5
pub walk_component-requires-clause-next : goal.walk_component-requires-clause-next
walk_component-requires-clause-next c =
    outermost_next c.args.walk.now c.requires c.new-found.result c.new-found.ensures.problem c.new-found.ensures.variables c.new-found.ensures.items _ path_outermost

-- src/walk.rt:28:1
pub returns-clause-found : goal.returns-clause-found
returns-clause-found c =
    outermost_found c.args.walk.now c.requires c.new-found.result c.new-found.ensures.problem c.new-found.ensures.variables c.new-found.ensures.items _ path_outermost
    c.walk_component.new.found c.in_ok-walk_component.ensures.visits
