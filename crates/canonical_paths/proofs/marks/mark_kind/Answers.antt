use Rattle.std.proofs.Common.{◌∷◌, [], ◌∙◌, length, sym, subst}
use Rattle.utopist_syntax.specs.declared.item.VarKind.{VarKind}
use Rattle.utopist_syntax.specs.FileTree.{var}
use Rattle.canonical_paths.specs.steps.Marks.{IsTypeOf, MarksMore}
use Rattle.canonical_paths.proofs.MarkedConcepts.{components_mark, some_there}
use Rattle.canonical_paths.proofs.marks.mark_kind.Goals as goal

pub returns-then-not-is_empty : goal.returns-then-not-is_empty
returns-then-not-is_empty c =
    λ binds.
    subst (λ (k : VarKind). MarksMore (IsTypeOf c.args.lineages.now.names (var c.args.names.now k binds ∷ [])) c.args.marks.now c.mark_name.new.marks) (sym c.in-Of.is)
    (components_mark c.args.lineages.now.names c.args.names.now c.in-Of.name binds c.args.marks.now c.mark_name.new.marks (some_there (length c.args.names.now) (sym c.is_empty.ensures ∙ c.if-not-is_empty.true))
    c.mark_name.ensures)
