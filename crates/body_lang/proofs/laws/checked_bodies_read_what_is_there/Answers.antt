use Rattle.body_lang.proofs.ClosedBodies.{closed, passes}
use Rattle.body_lang.proofs.laws.checked_bodies_read_what_is_there.Goals as goal

pub returns : goal.returns
returns c = λ inputs arities loops body. (closed inputs arities loops body, passes inputs arities loops body)
