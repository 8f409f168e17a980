use Rattle.std.proofs.Common.{inr, refl}
use Rattle.utopist_lexer.proofs.Cutting.{parts_none}
use Rattle.utopist_lexer.proofs.front.front_of.Goals as goal

pub returns-in_default : goal.returns-in_default
returns-in_default c = (parts_none c.args.text.now c.utf8.text c.in_default.ensures.first, inr (refl, c.in_default.ensures.first))
