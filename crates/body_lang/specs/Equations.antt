-- Equations between variables, as plain trees.
use Rattle.std.specs.Prelude.{⊤}
use Rattle.body_lang.specs.BodyTree.{BodyTree, num, input, neg, op}

-- the two sides of an equation, in which `input v` is variable v
pub record Sides : Type 0 where
  pub left : BodyTree
  pub right : BodyTree

-- numbers, variables, minus signs and operators alone
abbrev pub IsArithmetic : BodyTree → Type 0
IsArithmetic (num x) = ⊤
IsArithmetic (input v) = ⊤
IsArithmetic (neg a) = IsArithmetic a
IsArithmetic (op o a b) = IsArithmetic a × IsArithmetic b
IsArithmetic _ = ⊥

-- both sides are arithmetic
abbrev pub AreArithmetic : Sides → Type 0
AreArithmetic e = IsArithmetic e.left × IsArithmetic e.right
