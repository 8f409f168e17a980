use Rattle.std.proofs.Common.{◌≡◌, List, sym, ap, ◌∙◌, subst}
use Rattle.utopist_syntax.specs.FileTree.{ItemTree, item_tree}
use Rattle.canonical_paths.specs.DeclaredPaths.{paths_in_kind, item_paths}
use Rattle.path_limits.specs.Extents.{extent_of}
use Rattle.path_limits.specs.steps.Measured.{IsItemMeasured}
use Rattle.path_limits.proofs.own_items.extent_of_item.Goals as goal

-- src/own_items.rt:32:1
pub returns-in-Var : goal.returns-in-Var
returns-in-Var c = λ inside h.
    let e = ap item_tree c.in-Var.is in
    c.of_variables.ensures (paths_in_kind inside c.in-Var.kind) c.in-Var.names
    (c.extent_inside.ensures inside (subst (IsItemMeasured inside c.args.lineages.now.names c.args.extents.now) e h)) c.len.ensures
    ∙ ap (λ (i : ItemTree). extent_of (item_paths inside i)) (sym e)
