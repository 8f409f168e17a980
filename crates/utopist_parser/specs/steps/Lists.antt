-- Reading lists of parts with a separator between them: names and paths.
use Rattle.std.specs.Prelude.{List}
use Rattle.utopist_lexer.specs.declared.mark.Mark.TheVariants as marks
use Rattle.utopist_syntax.specs.Named.{Named}
use Rattle.utopist_syntax.specs.declared.path.Path.{Path}
use Rattle.token_forms.specs.steps.Steps.{StepOf, ◌>>=◌, give}
use Rattle.token_forms.specs.steps.Single.{name_at}
use Rattle.token_forms.specs.steps.Lists.{separated_at}

-- Name {"," Name}
unfoldable pub names_at : StepOf (List Named)
names_at = separated_at marks.Comma name_at

-- path = Name {"." Name}
unfoldable pub path_at : StepOf Path
path_at = do
  ns ← separated_at marks.Dot name_at
  give (record { parts = ns })

-- path {"," path}
unfoldable pub paths_at : StepOf (List Path)
paths_at = separated_at marks.Comma path_at
