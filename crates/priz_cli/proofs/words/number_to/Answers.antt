use Rattle.std.proofs.Common.{◌∙◌, sym, arith}
use Rattle.priz_cli.proofs.Numerals.{number_read, nothing_read, no_plus_first}
use Rattle.priz_cli.proofs.words.number_to.Goals as goal

pub returns-in-Ok : goal.returns-in-Ok
returns-in-Ok c =
    let digit = no_plus_first c.args.text.now (sym c.begins_with_plus.ensures ∙ c.if-begins_with_plus.false) in
    number_read c.args.greatest c.args.text.now c.parse.result c.parse.ensures.value.0 digit c.in-Ok.number c.in-Ok.is c.if-number-ge1.true c.if-number-greatest.true

pub returns-in_default-3 : goal.returns-in_default-3
returns-in_default-3 c =
    let digit = no_plus_first c.args.text.now (sym c.begins_with_plus.ensures ∙ c.if-begins_with_plus.false) in
    nothing_read c.args.greatest c.args.text.now c.parse.result c.parse.ensures.value.0 digit c.in_default.field-0 c.in_default.is (omega (arith, c.ranges.greatest.fits))
