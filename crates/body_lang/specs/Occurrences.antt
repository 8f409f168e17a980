-- How often a variable stands in an equation.
use Rattle.std.specs.Prelude.{ℕ, ◌+◌, if◌then◌else◌, ◌==◌}
use Rattle.body_lang.specs.BodyTree.{BodyTree, input, neg, op}
use Rattle.body_lang.specs.Equations.{Sides}

module _ (v : ℕ) where
  -- how many times variable v stands in arithmetic
  abbrev pub occurrences : BodyTree → ℕ
  occurrences (input i) = if i == v then 1 else 0
  occurrences (neg a) = occurrences a
  occurrences (op o a b) = occurrences a + occurrences b
  occurrences _ = 0

  -- how many times it stands on the two sides together
  abbrev pub occurrences_in : Sides → ℕ
  occurrences_in e = occurrences e.left + occurrences e.right
