use Rattle.std.proofs.Common.{◌≡◌, ℕ, ◌-◌, pos, ◌+ℤ◌}
use Rattle.body_lang.specs.View.{body_tree}
use Rattle.body_lang.specs.Precision.{narrowly}
use Rattle.body_lang.specs.Meaning.{Calls}
use Rattle.body_lang.specs.Rounds.{rounds, replacements}
use Rattle.proof_term.specs.steps.Agrees.{repeated_part}
use Rattle.proof_term.proofs.evaluate.+evaluation.Given as goal

-- the rounds that are left give what all of them give
abbrev pub invariant-gather_between-loop-k : goal.invariant-gather_between-loop-k
invariant-gather_between-loop-k l =
    (owner : ℕ) (calls : Calls) →
    rounds narrowly owner (repeated_part owner calls l.frame (body_tree l.each)) l.op l.count l.first.num l.fn.start l.turns
    ≡ rounds narrowly owner (repeated_part owner calls l.frame (body_tree l.each)) l.op (l.count - l.k) (l.first.num +ℤ pos l.k) l.total l.left

abbrev pub invariant-replace_times-loop-round : goal.invariant-replace_times-loop-round
invariant-replace_times-loop-round l =
    (owner : ℕ) (calls : Calls) →
    replacements narrowly owner (repeated_part owner calls l.frame (body_tree l.each)) l.count l.fn.start l.turns
    ≡ replacements narrowly owner (repeated_part owner calls l.frame (body_tree l.each)) (l.count - l._round) l.value l.left
