use Rattle.cert_text.proofs.Bits.{member_bit, other_bit}
use Rattle.cert_text.proofs.worlds_line.bit.Goals as goal

pub returns-then-has-clause-bit : goal.returns-then-has-clause-bit
returns-then-has-clause-bit c = member_bit c.args.world.now c.args.v c.has.result c.has.ensures c.if-has.true

pub returns-else-has-clause-bit : goal.returns-else-has-clause-bit
returns-else-has-clause-bit c = other_bit c.args.world.now c.args.v c.has.result c.has.ensures c.if-has.false
