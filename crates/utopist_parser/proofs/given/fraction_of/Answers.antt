use Rattle.std.proofs.Common.{rules, w64, ◌∙◌}
use mir.Val.{SFits}
use Rattle.utopist_parser.proofs.Fractions.{fraction_is}
use Rattle.utopist_parser.proofs.given.fraction_of.Goals as goal

pub unreachable-requires : goal.unreachable-requires
unreachable-requires c =
    let f : SFits w64 c.with_sign.result = search rules in
    let never = c.in-Err.ensures ∙ fraction_is c.args.negative c.args.n c.args.d c.with_sign.result c.ranges.n c.ranges.d f c.requires.natural c.requires.positive c.with_sign.ensures in
    absurd cc

pub returns : goal.returns
returns c =
    let f : SFits w64 c.with_sign.result = search rules in
    let given = c.in-Ok.ensures ∙ fraction_is c.args.negative c.args.n c.args.d c.with_sign.result c.ranges.n c.ranges.d f c.requires.natural c.requires.positive c.with_sign.ensures in
    cc
