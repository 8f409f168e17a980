use Rattle.std.proofs.Common.{sym}
use Rattle.utopist_lexer.proofs.Found.{word_token, name_token, name_fault}
use Rattle.utopist_lexer.proofs.front.identifier_of.Goals as goal

pub returns-in-Some : goal.returns-in-Some
returns-in-Some c = (c.cut_run.ensures.parts, word_token c.args.text.now c.cut_run.result.0.now c.cut_run.result.1.now c.requires c.cut_run.ensures.parts c.cut_run.ensures.run c.in-Some.word (sym c.in-Some.ensures))

pub returns-in-None : goal.returns-in-None
returns-in-None c = name_fault c.args.text.now c.cut_run.result.0.now c.cut_run.result.1.now c.requires c.cut_run.ensures.parts c.cut_run.ensures.run (sym c.in-None.ensures) c.if-name-gt-MAX_NAME.true

pub returns-in-None-2 : goal.returns-in-None-2
returns-in-None-2 c =
    (c.cut_run.ensures.parts, name_token c.args.text.now c.cut_run.result.0.now c.cut_run.result.1.now c.requires c.cut_run.ensures.parts c.cut_run.ensures.run (sym c.in-None-2.ensures) c.if-name-gt-MAX_NAME.false)
