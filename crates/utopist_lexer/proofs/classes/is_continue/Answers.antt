use Rattle.std.proofs.Common.{ap, ◌∙◌}
use Rattle.std.specs.Prelude.{◌||◌, ◌==◌}
use Rattle.utopist_lexer.proofs.CharacterFacts.{continue_ascii}
use Rattle.utopist_lexer.proofs.classes.is_continue.Goals as goal

pub returns-then-is_ascii_alphanumeric : goal.returns-then-is_ascii_alphanumeric
returns-then-is_ascii_alphanumeric c =
    c.if-is_ascii_alphanumeric.true ∙ ap (λ b. b || (c.args.c == 95)) c.if-is_ascii_alphanumeric.ensures.value ∙ continue_ascii c.args.c c.if-is_ascii.ensures

pub returns-else-is_ascii_alphanumeric : goal.returns-else-is_ascii_alphanumeric
returns-else-is_ascii_alphanumeric c = ap (λ b. b || (c.args.c == 95)) c.if-is_ascii_alphanumeric.ensures.value ∙ continue_ascii c.args.c c.if-is_ascii.ensures
