use Rattle.std.proofs.Common.{◌≡◌, ◌-◌, ℕ, suc, map, subst, arith}
use Rattle.utopist_syntax.specs.FileTree.{concept_tree}
use Rattle.canonical_paths.specs.steps.Marks.{AreMarkedFrom}
use Rattle.canonical_paths.proofs.MarkedConcepts.{first_marks}
use Rattle.canonical_paths.proofs.marks.reached_from.Goals as goal

pub returns : goal.returns
returns c =
    let e : suc c.args.asked - c.loop-done.done ≡ 0 = omega (arith, c.loop-done-test.false) in
    subst (λ (n : ℕ). AreMarkedFrom (map concept_tree c.args.concepts.now) c.args.asked n c.loop-done.marks) e c.loop-done.invariant
