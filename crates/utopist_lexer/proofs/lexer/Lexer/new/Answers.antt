use Rattle.utopist_lexer.proofs.Reached.{reached_first}
use Rattle.utopist_lexer.proofs.lexer.Lexer.new.Goals as goal

pub invariant_of-result : goal.invariant_of-result
invariant_of-result c = reached_first c.args.text.now c.utf8.text c.requires
