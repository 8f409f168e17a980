use Rattle.std.proofs.Common.{◌≡◌, ◌+◌, ℕ, List, [], take, get_or, refl, sym, ap, ◌∙◌, subst}
use Rattle.std.specs.List.{flat_map}
use Rattle.utopist_syntax.specs.FileTree.{ConceptTree}
use Rattle.canonical_paths.specs.PathNames.{PathNames}
use Rattle.canonical_paths.proofs.Elements.{take_next}
use Rattle.path_limits.specs.Extents.{extent_of}
use Rattle.path_limits.specs.steps.Measured.{AreOf}
use Rattle.path_limits.proofs.SplitLines.{no_parts, split_parts, read_part, more_paths}
use Rattle.path_limits.proofs.extents.extent_of_line.Goals as goal

pub loop-which-init : goal.loop-which-init
loop-which-init c = λ paths cs e.
    c.none-extent.ensures ∙ ap (λ (ds : List ConceptTree). extent_of (flat_map paths ds)) (sym (no_parts paths c.args.own.now cs e))

pub loop-which-preserved : goal.loop-which-preserved
loop-which-preserved c = λ paths cs e.
    let next = take_next c.args.line.now c.loop-which.which-index (get_or c.args.line.now c.loop-which.which-index 0) 0 c.loop-which-test.true refl in
    let r = split_parts paths c.args.own.now (take c.loop-which.which-index c.args.line.now) (get_or c.args.line.now c.loop-which.which-index 0) cs (subst (λ (ns : List ℕ). AreOf paths c.args.own.now ns cs) next e) in
    c.join-extent.ensures (flat_map paths r.before) (paths r.last)
    (c.loop-which.invariant paths r.before r.parts)
    (read_part paths c.args.own.now (get_or c.args.line.now c.loop-which.which-index 0) _ r.last (c.requires c.loop-which.which-index 0 c.loop-which-test.true) r.at)
    ∙ ap extent_of (more_paths paths c.args.own.now cs r.before r.last r.is)
