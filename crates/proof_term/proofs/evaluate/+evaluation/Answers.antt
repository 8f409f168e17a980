use Rattle.std.proofs.Common.{◌∙◌, ◌-◌, ap, sym, arith}
use Rattle.std.proofs.lemmas.Result.{err_from_is_err_and}
use Rattle.body_lang.specs.View.{body_tree}
use Rattle.body_lang.specs.Precision.{narrowly}
use Rattle.body_lang.specs.Meaning.{mean}
use Rattle.proof_term.specs.steps.Agrees.{repeated_part}
use Rattle.proof_term.proofs.LocalPlaces.{inside_values}
use Rattle.proof_term.proofs.LoopRounds.{agrees_along, turn_passes, rounds_more, round_stops, joining_stops, replaced_more, replacing_stops}
use Rattle.proof_term.proofs.LoopForms.{sum_is, product_is, iteration_is}
use Rattle.proof_term.proofs.evaluate.+evaluation.Goals as goal

pub evaluate-returns-in_ok-y-in-Sum : goal.evaluate-returns-in_ok-y-in-Sum
evaluate-returns-in_ok-y-in-Sum t c = λ owner calls.
    agrees_along owner c.gather.result _ _
    (sum_is owner calls c.args.frame.now c.args.body.now c.in-Sum.first c.in-Sum.second c.in-Sum.each c.in_ok-x-in-Sum.x c.in_ok-y-in-Sum.y c.from_whole-zero.result c.args.turns c.in_ok-x-in-Sum.turns c.in_ok-y-in-Sum.turns
    (rw (← c.get-in-Sum.ensures) (c.in_ok-x-in-Sum.ensures owner calls))
    (rw (← c.get-in-Sum-2.ensures) (c.in_ok-y-in-Sum.ensures owner calls)) c.in-Sum.is c.from_whole-zero.ensures)
    (rw (← c.get-in-Sum-3.ensures) (c.gather.ensures owner calls))

pub evaluate-returns-in_ok-y-in-Prod : goal.evaluate-returns-in_ok-y-in-Prod
evaluate-returns-in_ok-y-in-Prod t c = λ owner calls.
    agrees_along owner c.gather-in-Prod.result _ _
    (product_is owner calls c.args.frame.now c.args.body.now c.in-Prod.first c.in-Prod.second c.in-Prod.each c.in_ok-x-in-Prod.x c.in_ok-y-in-Prod.y c.from_whole-one.result c.args.turns c.in_ok-x-in-Prod.turns c.in_ok-y-in-Prod.turns
    (rw (← c.get-in-Prod.ensures) (c.in_ok-x-in-Prod.ensures owner calls))
    (rw (← c.get-in-Prod-2.ensures) (c.in_ok-y-in-Prod.ensures owner calls)) c.in-Prod.is c.from_whole-one.ensures)
    (rw (← c.get-in-Prod-3.ensures) (c.gather-in-Prod.ensures owner calls))

pub evaluate-returns-in_ok-y-in-Iter : goal.evaluate-returns-in_ok-y-in-Iter
evaluate-returns-in_ok-y-in-Iter t c = λ owner calls.
    agrees_along owner c.replace.result _ _
    (iteration_is owner calls c.args.frame.now c.args.body.now c.in-Iter.first c.in-Iter.second c.in-Iter.each c.in_ok-x-in-Iter.x c.in_ok-y-in-Iter.y c.in_ok-x-in-Iter.x c.args.turns c.in_ok-x-in-Iter.turns c.in_ok-y-in-Iter.turns
    (rw (← c.get-in-Iter.ensures) (c.in_ok-x-in-Iter.ensures owner calls))
    (rw (← c.get-in-Iter-2.ensures) (c.in_ok-y-in-Iter.ensures owner calls)) c.in-Iter.is)
    (rw (← c.get-in-Iter-3.ensures) (c.replace.ensures owner calls))

pub round-returns : goal.round-returns
round-returns t c = λ owner calls.
    agrees_along owner c.evaluate.result _ _
    (turn_passes owner (repeated_part owner calls c.args.frame.now (body_tree c.args.each.now)) c.args.value c.args.turns (omega (arith, c.if-turns-eq0.false))
    ∙ ap (λ l. mean narrowly owner calls c.args.frame.now.inputs.now (body_tree c.args.each.now) l (c.args.turns - 1)) (sym (inside_values c.args.value c.args.frame.now.locals)))
    (c.evaluate.ensures owner calls)

pub gather_between-loop-k-preserved : goal.gather_between-loop-k-preserved
gather_between-loop-k-preserved t c = λ owner calls.
    c.loop-k.invariant owner calls
    ∙ rounds_more owner (repeated_part owner calls c.args.frame.now (body_tree c.args.each.now)) c.args.op c.round_count-count.result c.loop-k.k c.args.bounds.0.num c.loop-k.total c.in_ok-value.value c.in_ok-total.field-0-0 c.loop-k.left c.in_ok-value.rest c.in_ok-total.field-0-1 c.loop-k-test.true (rw (← c.round_value.ensures) (c.in_ok-value.ensures owner calls)) (c.in_ok-total.ensures owner)

pub gather_between-returns-in_err-value : goal.gather_between-returns-in_err-value
gather_between-returns-in_err-value t c = λ owner calls.
    let p = err_from_is_err_and c.from_residual.result c.from_residual.ensures.1 in
    rw (p.1, p.2, ← c.round_count-count.ensures)
    (c.loop-k.invariant owner calls
    ∙ round_stops owner (repeated_part owner calls c.args.frame.now (body_tree c.args.each.now)) c.args.op c.round_count-count.result c.loop-k.k c.args.bounds.0.num c.loop-k.total c.loop-k.left _ c.loop-k-test.true (rw (← c.round_value.ensures) (c.in_err-value.ensures owner calls)))

pub gather_between-returns-in_err-total : goal.gather_between-returns-in_err-total
gather_between-returns-in_err-total t c = λ owner calls.
    let p = err_from_is_err_and c.from_residual-in_err-total.result c.from_residual-in_err-total.ensures.1 in
    rw (p.1, p.2, ← c.round_count-count.ensures)
    (c.loop-k.invariant owner calls
    ∙ joining_stops owner (repeated_part owner calls c.args.frame.now (body_tree c.args.each.now)) c.args.op c.round_count-count.result c.loop-k.k c.args.bounds.0.num c.loop-k.total c.in_ok-value.value c.loop-k.left c.in_ok-value.rest _ c.loop-k-test.true (rw (← c.round_value.ensures) (c.in_ok-value.ensures owner calls)) (c.in_err-total.ensures owner))

pub replace_times-loop-round-preserved : goal.replace_times-loop-round-preserved
replace_times-loop-round-preserved t c = λ owner calls.
    c.loop-round.invariant owner calls
    ∙ replaced_more owner (repeated_part owner calls c.args.frame.now (body_tree c.args.each.now)) c.args.count c.loop-round._round c.loop-round.value c.in_ok-value.field-0-0 c.loop-round.left c.in_ok-value.field-0-1 c.loop-round-test.true (c.in_ok-value.ensures owner calls)

pub replace_times-returns-in_err-value : goal.replace_times-returns-in_err-value
replace_times-returns-in_err-value t c = λ owner calls.
    let p = err_from_is_err_and c.from_residual.result c.from_residual.ensures.1 in
    rw (p.1, p.2)
    (c.loop-round.invariant owner calls
    ∙ replacing_stops owner (repeated_part owner calls c.args.frame.now (body_tree c.args.each.now)) c.args.count c.loop-round._round c.loop-round.value c.loop-round.left _ c.loop-round-test.true (c.in_err-value.ensures owner calls))
