-- What a part of a side equals, by all that stands around it.
use Rattle.std.specs.Prelude.{ℕ, if◌then◌else◌, ◌==◌, Option, Some, None}
use Rattle.body_lang.specs.BodyTree.{BodyTree, neg}
use Rattle.body_lang.specs.Inverse.{left_part, right_part, inwards}
use Rattle.body_lang.specs.Occurrences.{occurrences}
use Rattle.body_lang.specs.View.{body_tree}
use Rattle.equation_invert.specs.declared.around.Around.{Around}
use Rattle.equation_invert.specs.declared.around.Around.TheOpen.{Around-F}
use Rattle.equation_invert.specs.declared.around.Around.TheFolds.{fold-Around}

-- a step inwards
abbrev pub step_inside : Around-F BodyTree → BodyTree
step_inside (Around-F.Equals other) = body_tree other.now
step_inside (Around-F.Minus whole) = neg whole.now
step_inside (Around-F.LeftOf o right whole) = left_part o (body_tree right.now) whole.now
step_inside (Around-F.RightOf o left whole) = right_part o (body_tree left.now) whole.now

-- what the part inside equals
abbrev pub inside_tree : Around → BodyTree
inside_tree = fold-Around BodyTree step_inside

-- what v equals, where it stands once in a part that equals c
abbrev pub inverse_inside : ℕ → BodyTree → BodyTree → Option BodyTree
inverse_inside v part c = if occurrences v part == 1 then Some (inwards v part c) else None
