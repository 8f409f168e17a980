-- Reading lists of parts with a separator between them.
use Rattle.std.specs.Prelude.{List, ◌∷◌}
use Rattle.utopist_lexer.specs.declared.mark.Mark.{Mark}
use Rattle.token_forms.specs.steps.Steps.{StepOf, ◌>>=◌, give, repeat_at}
use Rattle.token_forms.specs.steps.Single.{is_mark, mark_at}

-- SEPARATOR part
abbrev pub next_at : {V : Type 0} → Mark → StepOf V → StepOf V
next_at separator f = do
  u ← mark_at separator
  f

-- part {SEPARATOR part}
abbrev pub separated_at : {V : Type 0} → Mark → StepOf V → StepOf (List V)
separated_at separator f = do
  v ← f
  vs ← repeat_at (is_mark separator) (next_at separator f)
  give (v ∷ vs)
