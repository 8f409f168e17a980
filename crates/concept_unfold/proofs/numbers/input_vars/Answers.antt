use Rattle.std.proofs.Common.{List, map, subst, sym, ap, ◌∙◌}
use Rattle.std.proofs.lemmas.List.{take_all}
use Rattle.utopist_syntax.specs.declared.item.Part.{Part}
use Rattle.statement_set.specs.Problem.{var_count, AreVars}
use Rattle.concept_unfold.specs.Paths.{inputs_of}
use Rattle.concept_unfold.specs.Unfolded.{var_number}
use Rattle.concept_unfold.proofs.Places.{numbers_below}
use Rattle.concept_unfold.proofs.Progress.{inputs_known_at}
use Rattle.concept_unfold.proofs.numbers.input_vars.Goals as goal

pub add_input-requires : goal.add_input-requires
add_input-requires c = inputs_known_at c.args.problem.now.names c.args.parts.now c.loop-part.part-index c.part-item.result c.loop-part-test.true c.part-item.is c.requires

pub returns-clause-below : goal.returns-clause-below
returns-clause-below c =
    let names = c.args.problem.now.names in
    let parts = c.args.parts.now in
    let all = ap (λ (ps : List Part). map (var_number names) (inputs_of ps)) (take_all c.loop-part.part-index parts c.loop-part-test.false) in
    subst (AreVars (var_count c.args.problem.now)) (sym (c.loop-part.invariant ∙ all)) (numbers_below names (inputs_of parts) c.requires)
