use Rattle.std.proofs.Common.{sym, ap, ◌∙◌}
use Rattle.utopist_lexer.specs.steps.Tables.{front_mark}
use Rattle.utopist_lexer.proofs.Marks.{mark_boundary, mark_parts, mark_token, mark_fault}
use Rattle.utopist_lexer.proofs.front.mark_of.Goals as goal

pub split_at-requires : goal.split_at-requires
split_at-requires c = mark_boundary c.args.text.now c.in-Some.mark c.text.result.now c.utf8.text (ap front_mark (sym c.as_bytes.ensures.value) ∙ sym c.in-Some.ensures) c.text.ensures

pub returns-in-Some : goal.returns-in-Some
returns-in-Some c =
    let found = ap front_mark (sym c.as_bytes.ensures.value) ∙ sym c.in-Some.ensures in
    let parts = mark_parts c.args.text.now c.in-Some.mark c.text.result.now c.utf8.text found c.text.ensures c.split_at.result.0.now c.split_at.result.1.now c.split_at.ensures.front c.split_at.ensures.back in
    (parts, mark_token c.args.text.now c.in-Some.mark c.text.result.now c.utf8.text found c.text.ensures c.split_at.result.0.now c.split_at.result.1.now c.split_at.ensures.front c.split_at.ensures.back c.requires)

pub returns-in-None : goal.returns-in-None
returns-in-None c = mark_fault c.args.text.now c.utf8.text c.requires (ap front_mark (sym c.as_bytes.ensures.value) ∙ sym c.in-None.ensures)
