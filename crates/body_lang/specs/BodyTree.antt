-- Bodies as plain trees.
use Rattle.std.specs.Prelude.{ℕ, suc}
use Rattle.priz_frac.specs.Ratio.{Ratio}
use Rattle.body_lang.specs.declared.op.Op.{Op}
use Rattle.body_lang.specs.declared.cmp.Cmp.{Cmp}

mutual
  -- a body; a loop has its two bounds, and the part that it repeats; a call has the numbers of a subtask and of its output
  pub data BodyTree : Type 0 where
    num : Ratio → BodyTree
    input : ℕ → BodyTree
    local : ℕ → BodyTree
    neg : BodyTree → BodyTree
    op : Op → BodyTree → BodyTree → BodyTree
    choice : Cmp → BodyTree → BodyTree → BodyTree → BodyTree → BodyTree
    total : BodyTree → BodyTree → BodyTree → BodyTree
    product : BodyTree → BodyTree → BodyTree → BodyTree
    iterate : BodyTree → BodyTree → BodyTree → BodyTree
    call : (k out : ℕ) (args : BodyTrees) → BodyTree

  -- the arguments of a call
  pub data BodyTrees : Type 0 where
    none : BodyTrees
    more : BodyTree → BodyTrees → BodyTrees

-- how many arguments there are
abbrev pub count_of : BodyTrees → ℕ
count_of none = 0
count_of (more a rest) = suc (count_of rest)
