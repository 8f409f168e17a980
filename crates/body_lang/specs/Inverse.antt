-- An equation turned inside out, so that a variable that stands in it once is alone on its side.
use Rattle.std.specs.Prelude.{ℕ, if◌then◌else◌, ◌==◌, Option, Some, None}
use Rattle.body_lang.specs.declared.op.Op.{Op}
use Rattle.body_lang.specs.declared.op.Op.TheVariants.{Add, Sub, Mul, Div}
use Rattle.body_lang.specs.BodyTree.{BodyTree, neg, op}
use Rattle.body_lang.specs.Equations.{Sides}
use Rattle.body_lang.specs.Occurrences.{occurrences, occurrences_in}

-- what the left part of `a o b = c` is, from b and c
abbrev pub left_part : Op → BodyTree → BodyTree → BodyTree
left_part Add b c = op Sub c b
left_part Sub b c = op Add c b
left_part Mul b c = op Div c b
left_part Div b c = op Mul c b

-- what the right part of `a o b = c` is, from a and c
abbrev pub right_part : Op → BodyTree → BodyTree → BodyTree
right_part Add a c = op Sub c a
right_part Sub a c = op Sub a c
right_part Mul a c = op Div c a
right_part Div a c = op Div a c

-- for a variable v
module _ (v : ℕ) where
  -- goes inwards from a side in which v stands once, and the other side c, until the side is v; then c is the answer
  abbrev pub inwards : BodyTree → BodyTree → BodyTree
  inwards (neg a) c = inwards a (neg c)
  inwards (op o a b) c =
      if occurrences v a == 1 then inwards a (left_part o b c) else inwards b (right_part o a c)
  inwards _ c = c

  -- starts with the side that holds v
  abbrev pub solved : Sides → BodyTree
  solved e = if occurrences v e.left == 1 then inwards e.left e.right else inwards e.right e.left

  -- the equation solved for v, where v stands in it exactly once
  abbrev pub inverse : Sides → Option BodyTree
  inverse e = if occurrences_in v e == 1 then Some (solved e) else None
