use Rattle.std.proofs.Common.{List, subst, sym, ap}
use Rattle.utopist_syntax.specs.declared.item.Part.{Part}
use Rattle.utopist_syntax.specs.FileTree.{item_tree, body_expr_tree}
use Rattle.concept_unfold.specs.Paths.{inputs_of, input_names}
use Rattle.concept_unfold.specs.Unfolded.{AreKnown}
use Rattle.concept_unfold.specs.steps.Plain.{HasNoFault, ItemFollows}
use Rattle.concept_unfold.proofs.items.add_item.Goals as goal

pub add_statement-requires-clause-inputs : goal.add_statement-requires-clause-inputs
add_statement-requires-clause-inputs c =
    let names = c.args.problem.now.names in
    let follows = subst (ItemFollows names) (ap item_tree c.in-Rel.is) c.requires.rules in
    subst (λ (ps : List Part). AreKnown names (inputs_of ps)) (sym c.as_slice-in-Rel.ensures) follows.0

pub add_statement-requires-clause-output : goal.add_statement-requires-clause-output
add_statement-requires-clause-output c =
    let follows = subst (ItemFollows c.args.problem.now.names) (ap item_tree c.in-Rel.is) c.requires.rules in follows.1

pub add_statement-requires-clause-body : goal.add_statement-requires-clause-body
add_statement-requires-clause-body c =
    let follows = subst (ItemFollows c.args.problem.now.names) (ap item_tree c.in-Rel.is) c.requires.rules in
    subst (λ (ps : List Part). HasNoFault (input_names ps) (body_expr_tree c.in-Rel.body)) (sym c.as_slice-in-Rel.ensures) follows.2
