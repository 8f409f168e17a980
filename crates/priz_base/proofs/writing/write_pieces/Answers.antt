use Rattle.std.proofs.Common.{arith}
use Rattle.priz_base.proofs.Pieces.{part_of}
use Rattle.priz_base.proofs.writing.write_pieces.Goals as goal

pub returns-then-not-write_all : goal.returns-then-not-write_all
returns-then-not-write_all g c =
    let failed = rw c.if-not-write_all.true at c.write_all.ensures in
    (part_of (g.K.Sink.written c.args.sink.now) (g.K.Sink.written c.loop-piece.sink) (g.K.Sink.written c.write_all.new.sink) c.args.pieces.now c.loop-piece.piece-index _ c.loop-piece-test.true c.loop-piece.invariant.so_far failed.0, omega (arith, failed.1, c.loop-piece.invariant.later), omega (arith, failed.2, c.loop-piece.invariant.later))
