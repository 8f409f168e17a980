-- Arguments and lists written element by element.
use Rattle.std.proofs.Common.{ℕ, Bool, List, ◌++◌}
use Rattle.std.specs.Prelude.{[], codes, not}
use Rattle.utopist_syntax.specs.Round.{if_needed}
use Rattle.utopist_syntax.specs.declared.position.Position.TheVariants.{Alone}
use Rattle.body_lang.specs.BodyTree.{BodyTrees, none, more}
use Rattle.problem_text.specs.BodyText.{body_at, more_arguments_at}

-- what is left to write of arguments, of which the first may be among it
abbrev pub left_arguments : List (List ℕ) → ℕ → Bool → BodyTrees → List ℕ
left_arguments names rounds first none = []
left_arguments names rounds first (more a rest) =
    (if_needed (not first) (codes ", ") ++ body_at names rounds Alone a) ++ more_arguments_at names rounds rest
