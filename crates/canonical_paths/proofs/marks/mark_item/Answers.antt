use Rattle.std.proofs.Common.{◌∷◌, [], List, sym, ap, subst}
use Rattle.utopist_syntax.specs.Named.{Named}
use Rattle.utopist_syntax.specs.FileTree.{ItemTree, var, item_tree}
use Rattle.canonical_paths.specs.steps.Marks.{IsTypeOf, MarksMore}
use Rattle.canonical_paths.proofs.marks.mark_item.Goals as goal

pub returns-in-Var : goal.returns-in-Var
returns-in-Var c =
    subst (λ (i : ItemTree). MarksMore (IsTypeOf c.args.lineages.now.names (i ∷ [])) c.args.marks.now c.mark_kind.new.marks) (ap item_tree (sym c.in-Var.is))
    (subst (λ (ns : List Named). MarksMore (IsTypeOf c.args.lineages.now.names (var ns c.in-Var.kind c.in-Var.binds ∷ [])) c.args.marks.now c.mark_kind.new.marks) c.as_slice.ensures
    (c.mark_kind.ensures c.in-Var.binds))
