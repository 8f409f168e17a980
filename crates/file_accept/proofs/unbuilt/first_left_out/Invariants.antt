use Rattle.std.proofs.Common.{length}
use Rattle.std.specs.Str.{chars}
use Rattle.file_accept.proofs.UnbuiltTokens.{LookedAt}
use Rattle.file_accept.proofs.unbuilt.first_left_out.Given as goal

abbrev pub invariant-tokens : goal.invariant-tokens
invariant-tokens l = LookedAt l.fn.left_out (chars l.fn.text) l.lexer l.context

abbrev pub decreases-tokens : goal.decreases-tokens
decreases-tokens l = length l.lexer.left
