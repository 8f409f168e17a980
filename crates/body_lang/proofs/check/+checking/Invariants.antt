use Rattle.std.proofs.Common.{◌≡◌, ℕ, ◌^◌, min, drop}
use Rattle.body_lang.specs.View.{body_trees}
use Rattle.body_lang.specs.Checked.{all_checked}
use Rattle.body_lang.proofs.check.+checking.Given as goal

abbrev pub invariant-check_all-loop-arg : goal.invariant-check_all-loop-arg
invariant-check_all-loop-arg l =
    (d : ℕ) → l.loops ≡ min d (2 ^ 32) → all_checked l.inputs l.arities d (body_trees l.args) ≡ all_checked l.inputs l.arities d (body_trees (drop l.arg-index l.args))
