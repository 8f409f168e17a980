use Rattle.std.proofs.Common.{refl, sym, subst}
use Rattle.utopist_lexer.specs.Lexical.{IsFree}
use Rattle.utopist_lexer.proofs.front.is_free.Goals as goal

pub returns-in-None : goal.returns-in-None
returns-in-None c = (λ t. subst IsFree (sym c.in-None.ensures.first) tt, λ f. refl)
