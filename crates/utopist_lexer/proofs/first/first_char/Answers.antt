use Rattle.std.proofs.Common.{◌∷◌, sym, ap, ◌∙◌}
use Rattle.std.proofs.lemmas.Str.{chars_past_char}
use Rattle.std.specs.Str.{chars}
use Rattle.utopist_lexer.proofs.first.first_char.Goals as goal

pub returns-clause-first : goal.returns-clause-first
returns-clause-first c =
    chars_past_char c.args.text.now c.next.new.self.rest.now c.in_ok-c.c c.utf8.text (sym c.chars-left.ensures.rest ∙ c.in_ok-c.ensures.steps.0)
    ∙ ap (λ l. c.in_ok-c.c ∷ chars l) (sym c.as_str.ensures)
