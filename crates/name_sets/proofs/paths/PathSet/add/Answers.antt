use Rattle.std.proofs.Common.{◌∙◌, ap}
use Rattle.name_sets.specs.Paths.{texts}
use Rattle.name_sets.specs.steps.PathEnds.{paths_of}
use Rattle.name_sets.proofs.Adding.{paths_more, are_paths_more}
use Rattle.name_sets.proofs.paths.PathSet.add.Goals as goal

pub invariant_of-self : goal.invariant_of-self
invariant_of-self c =
    rw c.in-Ok.ensures.ok (are_paths_more _ _ _ c.self.invariant (texts c.args.path.now) c.in-Ok.ensures.grows c.in-Ok.field-0 c.in-Ok.ensures.node)

pub returns-in-Ok-clause-ok : goal.returns-in-Ok-clause-ok
returns-in-Ok-clause-ok c =
    rw (← c.self.view_is) (ap (paths_of c.add_end.new.trie) c.in-Ok.ensures.ok ∙ paths_more _ _ _ c.self.invariant (texts c.args.path.now) c.in-Ok.ensures.grows c.in-Ok.field-0 c.in-Ok.ensures.node)
