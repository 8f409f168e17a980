use Rattle.std.proofs.Common.{◌∙◌}
use Rattle.name_sets.specs.Paths.{texts}
use Rattle.name_sets.proofs.Finding.{place_at_node, no_place_without_node}
use Rattle.name_sets.proofs.paths.PathSet.place.Goals as goal

pub returns-in_err-node : goal.returns-in_err-node
returns-in_err-node c =
    rw (← c.self.view_is) (c.from_residual.ensures ∙ no_place_without_node _ _ c.self.invariant c.is_tree.ensures (texts c.args.path.now) c.in_err-node.ensures.missing)

pub returns : goal.returns
returns c =
    rw (← c.self.view_is) (c.first.ensures ∙ place_at_node _ _ c.self.invariant c.is_tree.ensures (texts c.args.path.now) c.in_ok-node.node c.in_ok-node.ensures.found)
