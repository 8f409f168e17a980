use Rattle.std.proofs.Common.{sym}
use Rattle.std.specs.Str.{chars}
use Rattle.utopist_lexer.specs.Scanning.{tok}
use Rattle.token_forms.proofs.Scanning.{end_comes, next_comes, next_shorter}
use Rattle.file_accept.proofs.UnbuiltTokens.{looks_first, looks_on, opens_first, ends, fails}
use Rattle.file_accept.proofs.unbuilt.first_left_out.Goals as goal

pub tokens-init : goal.tokens-init
tokens-init c = looks_first c.args.left_out (chars c.args.text.now) c.new-lexer.result c.new-lexer.ensures

pub returns-in_default : goal.returns-in_default
returns-in_default c = fails c.args.left_out (chars c.args.text.now) c.tokens.lexer c.tokens.context c.tokens.invariant c.in_default.field-0 c.next.new.self.left c.in_default.ensures.next

pub returns-then-is : goal.returns-then-is
returns-then-is c =
    ends c.args.left_out (chars c.args.text.now) c.tokens.lexer c.tokens.context c.tokens.invariant c.in-Ok.token c.next.new.self.left
    (end_comes c.tokens.lexer (tok c.in-Ok.token) c.next.new.self.left c.if-is.ensures c.in-Ok.ensures.next)

pub returns-then-opens : goal.returns-then-opens
returns-then-opens c =
    rw c.place.ensures (opens_first c.args.left_out (chars c.args.text.now) c.tokens.lexer c.tokens.context c.tokens.invariant c.in-Ok.token c.next.new.self
    (next_comes c.tokens.lexer (tok c.in-Ok.token) c.next.new.self.left c.if-is.ensures c.in-Ok.ensures.next) (sym c.if-opens.ensures))

pub tokens-smaller : goal.tokens-smaller
tokens-smaller c = next_shorter c.tokens.lexer (tok c.in-Ok.token) c.next.new.self.left (next_comes c.tokens.lexer (tok c.in-Ok.token) c.next.new.self.left c.if-is.ensures c.in-Ok.ensures.next)

pub tokens-preserved : goal.tokens-preserved
tokens-preserved c =
    looks_on c.args.left_out (chars c.args.text.now) c.tokens.lexer c.tokens.context c.tokens.invariant c.in-Ok.token c.next.new.self c.behind-context.result c.next.ensures.whole
    (next_comes c.tokens.lexer (tok c.in-Ok.token) c.next.new.self.left c.if-is.ensures c.in-Ok.ensures.next) c.behind-context.ensures (sym c.if-opens.ensures)
