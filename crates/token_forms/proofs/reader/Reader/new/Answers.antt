use Rattle.std.specs.Str.{chars}
use Rattle.token_forms.proofs.Standing.{begins_at, begins_as}
use Rattle.token_forms.proofs.reader.Reader.new.Goals as goal

pub invariant_of-result : goal.invariant_of-result
invariant_of-result c = begins_at (chars c.args.text.now) c.new-lexer.result c.next.new.self c.new-lexer.ensures c.next.ensures.whole c.next.result c.next.ensures.next c.next.ensures.text

pub returns : goal.returns
returns c = begins_as (chars c.args.text.now) c.new-lexer.result c.next.new.self c.new-lexer.ensures c.next.ensures.whole c.next.result c.next.ensures.next c.next.ensures.text
