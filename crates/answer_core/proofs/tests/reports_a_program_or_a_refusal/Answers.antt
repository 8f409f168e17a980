use Rattle.answer_core.proofs.tests.reports_a_program_or_a_refusal.Goals as goal

pub render-requires-clause-answer : goal.render-requires-clause-answer
render-requires-clause-answer g c = (record { turns = 1 }, c.in_ok-found.ensures)
