use Rattle.std.specs.Prelude.{false}
use Rattle.std.specs.Fmt.{digit_glyph}
use Rattle.cert_text.specs.WorldText.{four_of}
use Rattle.cert_text.proofs.Pieces.{one_more}
use Rattle.cert_text.proofs.worlds_line.write_world.Goals as goal

pub loop-j-preserved : goal.loop-j-preserved
loop-j-preserved c =
    one_more (λ j. digit_glyph false (four_of c.args.world.now j)) c.args.out.now.items c.loop-j.out.items c.push.new.self.items c.loop-j.j c.digit.result c.loop-j.invariant c.digit.ensures c.in_ok-push.ensures.items
