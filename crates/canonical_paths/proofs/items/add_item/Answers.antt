use Rattle.std.proofs.Common.{◌∷◌, [], sym, ap, subst, List}
use Rattle.utopist_syntax.specs.Named.{Named}
use Rattle.utopist_syntax.specs.declared.item.Bind.{Bind}
use Rattle.utopist_syntax.specs.FileTree.{ItemTree, item_tree}
use Rattle.canonical_paths.specs.steps.Ready.{TakesVariables, TakesItems, ItemsNext, VariablesNext}
use Rattle.canonical_paths.proofs.OneVariable.{on_ok}
use Rattle.canonical_paths.proofs.TakingItems.{takes_item, takes_equation, takes_relation}
use Rattle.canonical_paths.proofs.NextItems.{kind_has_number, next_variables, kind_stands}
use Rattle.canonical_paths.proofs.items.add_item.Goals as goal

pub number_of_kind-concept-requires : goal.number_of_kind-concept-requires
number_of_kind-concept-requires c =
    kind_has_number c.args.lineages.now.names c.args.layouts.now c.args.so_far.now c.in-Var.variables c.in-Var.kind c.in-Var.binds
    (subst (λ (i : ItemTree). ItemsNext c.args.lineages.now.names c.args.layouts.now c.args.so_far.now (i ∷ [])) (ap item_tree c.in-Var.is) c.requires.next)

pub add_variables-requires-clause-next : goal.add_variables-requires-clause-next
add_variables-requires-clause-next c =
    subst (λ (ns : List Named). VariablesNext c.args.layouts.now c.args.so_far.now ns c.number_of_kind-concept.result c.as_slice-in-Var.result.now) (sym c.as_slice.ensures)
    (subst (λ (bs : List Bind). VariablesNext c.args.layouts.now c.args.so_far.now c.in-Var.variables c.number_of_kind-concept.result bs) (sym c.as_slice-in-Var.ensures)
    (next_variables c.args.lineages.now.names c.args.layouts.now c.args.so_far.now c.in-Var.variables c.in-Var.kind c.in-Var.binds
    (subst (λ (i : ItemTree). ItemsNext c.args.lineages.now.names c.args.layouts.now c.args.so_far.now (i ∷ [])) (ap item_tree c.in-Var.is) c.requires.next)
    c.number_of_kind-concept.result c.number_of_kind-concept.ensures))

pub returns-in-Var : goal.returns-in-Var
returns-in-Var c =
    on_ok c.add_variables.result _ _ c.add_variables.ensures
    (λ taken.
    subst (λ (i : ItemTree). TakesItems c.args.lineages.now.names c.args.layouts.now c.args.so_far.now c.add_variables.new.so_far (i ∷ [])) (ap item_tree (sym c.in-Var.is))
    (takes_item c.args.lineages.now.names c.args.layouts.now c.args.so_far.now c.add_variables.new.so_far c.in-Var.variables c.in-Var.kind c.in-Var.binds c.number_of_kind-concept.result
    (λ s ready known. c.number_of_kind-concept.ensures _ (kind_stands s c.args.lineages.now.names c.args.layouts.now c.in-Var.kind ready known))
    (subst (λ (bs : List Bind). TakesVariables c.args.layouts.now c.args.so_far.now c.add_variables.new.so_far c.in-Var.variables c.number_of_kind-concept.result bs) c.as_slice-in-Var.ensures
    (subst (λ (ns : List Named). TakesVariables c.args.layouts.now c.args.so_far.now c.add_variables.new.so_far ns c.number_of_kind-concept.result c.as_slice-in-Var.result.now) c.as_slice.ensures taken))))
