use Rattle.proof_term.proofs.LocalPlaces.{found_around, found_here, past_all}
use Rattle.proof_term.proofs.locals.+look.Goals as goal

pub returns-in-Ok-clause-found : goal.returns-in-Ok-clause-found
returns-in-Ok-clause-found t c = found_around c.args.locals.now c.in-Inside.value c.in-Inside.around c.in-Inside.is c.args.j c.in-Ok.found c.in-Ok.ensures.found

pub returns-in-Err-eq0-clause-found : goal.returns-in-Err-eq0-clause-found
returns-in-Err-eq0-clause-found t c = found_here c.args.locals.now c.in-Inside.value c.in-Inside.around c.in-Inside.is c.args.j c.in-Err-eq0.field-0 c.in-Err-eq0.ensures.past c.in-Err-eq0.field-0-test

pub returns-in-Err-clause-past : goal.returns-in-Err-clause-past
returns-in-Err-clause-past t c = past_all c.args.locals.now c.in-Inside.value c.in-Inside.around c.in-Inside.is c.args.j c.in-Err.past c.in-Err.ensures.past c.in-Err.past-test.1
