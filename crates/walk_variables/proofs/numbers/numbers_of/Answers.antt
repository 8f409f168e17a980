use Rattle.std.proofs.Common.{◌≡◌, ◌<◌, ◌+◌, ℕ, List, length, get_or, Some, sym, ap, ◌∙◌, subst, slice_index_or, arith}
use Rattle.std.specs.Prelude.{slice_get}
use Rattle.std.proofs.lemmas.List.{length-set}
use Rattle.std.proofs.lemmas.Option.{slice_get-get_or}
use Rattle.concept_walk.specs.Walks.{concepts_of, concept_in}
use Rattle.concept_walk.proofs.Places.{concept_there}
use Rattle.walk_variables.proofs.Placing.{AreAt, one_more}
use Rattle.walk_variables.proofs.WalkedNumbers.{numbers_differ, counts, number_within, are_numbers}
use Rattle.walk_variables.proofs.numbers.numbers_of.Goals as goal

-- src/numbers.rt:20:9
pub index_mut-requires : goal.index_mut-requires
index_mut-requires c =
    let w = c.args.walk.now in
    let h = c.requires.walk in
    let is = c.table-count.ensures (concepts_of w) w.asked h.laid (concept_in w w.asked) h.laid.asked (concept_there w w.asked h.asked) in
    let size = counts w h c.args.walked.now c.requires.found in
    let test = c.loop-var-test.true in
    let end = c.vars-var-end.ensures.count in
    let at = slice_get-get_or c.args.walked.now.variables c.loop-var.var 0 (omega (arith, size, test, end))
    ∙ ap (λ (xs : List ℕ). Some (get_or xs c.loop-var.var 0)) (sym c.as_slice.ensures) in
    let within = number_within w h c.args.walked.now c.requires.found c.table-count.result.now is c.loop-var.var (slice_index_or c.as_slice.result.now c.loop-var.var 0) at in
    let count = c.loop-var.invariant.count in
    let own = c.loop-var.numbers.ok.0 in
    omega (arith, within, count, own)

-- src/numbers.rt:18:5
pub loop-var-preserved : goal.loop-var-preserved
loop-var-preserved c =
    let w = c.args.walk.now in
    let h = c.requires.walk in
    let is = c.table-count.ensures (concepts_of w) w.asked h.laid (concept_in w w.asked) h.laid.asked (concept_there w w.asked h.asked) in
    let size = counts w h c.args.walked.now c.requires.found in
    let test = c.loop-var-test.true in
    let end = c.vars-var-end.ensures.count in
    let at = slice_get-get_or c.args.walked.now.variables c.loop-var.var 0 (omega (arith, size, test, end))
    ∙ ap (λ (xs : List ℕ). Some (get_or xs c.loop-var.var 0)) (sym c.as_slice.ensures) in
    let within = number_within w h c.args.walked.now c.requires.found c.table-count.result.now is c.loop-var.var (slice_index_or c.as_slice.result.now c.loop-var.var 0) at in
    let count = c.loop-var.invariant.count in
    let more = one_more c.args.walked.now.variables c.loop-var.numbers.items c.loop-var.var (slice_index_or c.as_slice.result.now c.loop-var.var 0)
    (numbers_differ w h c.args.walked.now c.requires.found) at (omega (arith, within, count)) c.loop-var.invariant.filled in
    record {
      count = length-set c.loop-var.numbers.items (slice_index_or c.as_slice.result.now c.loop-var.var 0) c.loop-var.var ∙ count;
      filled = λ k n lt. more k n (omega (arith, lt));
    }

-- src/numbers.rt:11:1
pub returns : goal.returns
returns c =
    let w = c.args.walk.now in
    let h = c.requires.walk in
    let is = c.table-count.ensures (concepts_of w) w.asked h.laid (concept_in w w.asked) h.laid.asked (concept_there w w.asked h.asked) in
    let size = counts w h c.args.walked.now c.requires.found in
    let test = c.loop-var-test.false in
    let end = c.vars-var-end.ensures.count in
    are_numbers w h c.args.walked.now c.requires.found c.table-count.result.now is c.loop-var.numbers.items c.loop-var.invariant.count
    (λ k n lt. c.loop-var.invariant.filled k n (omega (arith, lt, size, test, end)))
