use Rattle.std.proofs.Common.{List, length, sym, ap, ◌∙◌, subst}
use Rattle.std.specs.Prelude.{All}
use Rattle.std.specs.Option.{option_map}
use Rattle.std.proofs.lemmas.List.{length-map}
use Rattle.std.proofs.lemmas.List.Elements.{All-nil}
use Rattle.body_lang.specs.View.{body_tree}
use Rattle.statement_set.specs.declared.subtask.Subtask.{Subtask}
use Rattle.statement_set.specs.declared.statement.Statement.{Statement}
use Rattle.statement_set.specs.Problem.{var_count, IsSubtaskOver}
use Rattle.utopist_syntax.specs.FileTree.{body_expr_tree}
use Rattle.concept_unfold.specs.Paths.{inputs_of, input_names}
use Rattle.concept_unfold.specs.Bodies.{body_over}
use Rattle.concept_unfold.specs.Unfolded.{var_number}
use Rattle.concept_unfold.proofs.PlainBodies.{body_passes, fits_statement}
use Rattle.concept_unfold.proofs.items.add_statement.Goals as goal

pub add_statement-requires-clause-vars : goal.add_statement-requires-clause-vars
add_statement-requires-clause-vars c =
    let names = c.args.problem.now.names in
    let n = var_count c.args.problem.now in
    let inputs = c.in_ok-inputs.inputs in
    let parts = c.args.parts.now in
    let tree = body_expr_tree c.args.body.now in
    let count = ap length c.in_ok-inputs.ensures.numbers ∙ length-map (inputs_of parts) (var_number names) in
    let good = body_passes parts tree (length inputs) c.requires.built c.requires.body count in
    let made : Statement = record { inputs = inputs; subs = c.new-subs.result; output = c.var_of-output.result; body = option_map body_tree c.in_ok-body.body } in
    record {
      inputs = c.in_ok-inputs.ensures.below;
      subs = subst (λ (us : List Subtask). All (IsSubtaskOver n) us) (sym c.new-subs.ensures) (All-nil (IsSubtaskOver n));
      output = c.var_of-output.ensures.below;
      body = fits_statement made (body_over (input_names parts) tree) c.new-subs.ensures c.in_ok-body.ensures good;
    }
