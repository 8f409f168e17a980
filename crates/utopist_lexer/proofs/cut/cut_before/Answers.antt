use Rattle.utopist_lexer.proofs.Cutting.{parts_at, boundary_before}
use Rattle.utopist_lexer.proofs.cut.cut_before.Goals as goal

pub split_at-requires : goal.split_at-requires
split_at-requires c = boundary_before c.args.text.now c.requires.0 c.args.rest.now c.utf8.rest c.requires.1

pub returns-clause-parts : goal.returns-clause-parts
returns-clause-parts c =
    parts_at c.args.text.now c.split_at.result.0.now c.split_at.result.1.now _ c.utf8.text (boundary_before c.args.text.now c.requires.0 c.args.rest.now c.utf8.rest c.requires.1) c.split_at.ensures.front c.split_at.ensures.back
