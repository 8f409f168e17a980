use Rattle.std.proofs.Common.{take, length-append, length-take, arith}
use Rattle.std.proofs.KnownBytes.{Consumes-trans, Consumes-kept}
use Rattle.priz_base.proofs.reading.read_all.Goals as goal

-- the bytes that came last were taken, though no room was found for them
pub returns-then-is_err-clause-bytes : goal.returns-then-is_err-clause-bytes
returns-then-is_err-clause-bytes g c =
    (_, omega (arith, c.in-Got.ensures.count, c.pulls.bytes.ok.0, length-append c.pulls.bytes.items (take c.in-Got.count c.pull.new.into), length-take c.in-Got.count c.pull.new.into, c.pull.auto.into, length-take c.min-room.result c.pulls.chunk, c.min-room.ensures, c.len-in-pulls.ensures), Consumes-trans _ _ _ _ _ c.pulls.invariant.taken c.in-Got.ensures.bytes)

pub returns-in-End-clause-bytes : goal.returns-in-End-clause-bytes
returns-in-End-clause-bytes g c =
    let e = c.in-End.ensures.bytes in
    (Consumes-kept _ _ _ _ c.pulls.invariant.taken e.2, e.1, omega (arith, c.pulls-test.true, c.len.ensures, c.pulls.bytes.ok.0))
