use Rattle.std.proofs.Common.{ap, sym, ◌∙◌, Some}
use Rattle.priz_base.proofs.More.{some_below}
use Rattle.utopist_syntax.specs.Named.{Named}
use Rattle.concept_unfold.specs.Paths.{first_name}
use Rattle.concept_unfold.specs.Unfolded.{var_number}
use Rattle.concept_unfold.proofs.Places.{stands_there, first_read}
use Rattle.concept_unfold.proofs.numbers.var_of.Goals as goal

pub returns-clause-number : goal.returns-clause-number
returns-clause-number c =
    let names = c.args.problem.now.names in
    let p = c.args.path.now in
    let only = rw c.unwrap.ensures at c.find.ensures.only in
    let first = first_read names p c.as_slice.result.now c.index-as_slice-0.result c.requires c.as_slice.ensures c.index-as_slice-0.is in
    let text = c.text.ensures ∙ ap (λ (n : Named). n.text) first in
    sym (only (var_number names p) (stands_there names (first_name p).text c.requires.listed ∙ ap Some (sym text)))

pub returns-clause-below : goal.returns-clause-below
returns-clause-below c =
    let place = rw c.unwrap.ensures at c.find.ensures.place in
    some_below c.args.problem.now.names c.unwrap.result c.text.result.now place

pub returns-clause-few : goal.returns-clause-few
returns-clause-few c = rw c.unwrap.ensures at c.find.ensures.few
