use Rattle.std.proofs.Common.{Ok}
use Rattle.token_forms.proofs.Standing.{is_next, goes_to, goes_by}
use Rattle.token_forms.proofs.reader.Reader.advance.Goals as goal

pub invariant_of-self-else-is : goal.invariant_of-self-else-is
invariant_of-self-else-is c =
    goes_to c.self.inside.lexer c.next.new.self c.self.inside.front c.args.self.now c.in-Some-Ok.token c.self.invariant c.self.view_is
    (is_next c.self.inside.front c.in-Some-Ok.field-0 (Ok c.in-Some-Ok.token) c.in-Some-Ok.is (rw c.in-Some-Ok.is at c.in-Some-Ok.field-0-is)) c.if-is.ensures c.next.ensures.whole c.next.result c.next.ensures.next c.next.ensures.text

pub returns-else-is-clause-symbols : goal.returns-else-is-clause-symbols
returns-else-is-clause-symbols c =
    goes_by c.self.inside.lexer c.next.new.self c.self.inside.front c.args.self.now c.in-Some-Ok.token c.self.invariant c.self.view_is
    (is_next c.self.inside.front c.in-Some-Ok.field-0 (Ok c.in-Some-Ok.token) c.in-Some-Ok.is (rw c.in-Some-Ok.is at c.in-Some-Ok.field-0-is)) c.if-is.ensures c.next.ensures.whole c.next.result c.next.ensures.next c.next.ensures.text
