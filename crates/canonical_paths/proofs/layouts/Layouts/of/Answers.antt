use Rattle.std.proofs.Common.{map, sym, subst}
use Rattle.utopist_syntax.specs.FileTree.{concept_tree}
use Rattle.canonical_paths.specs.steps.Marks.{AreMarked}
use Rattle.canonical_paths.proofs.NextLayouts.{all_laid_out}
use Rattle.canonical_paths.proofs.layouts.Layouts.of.Goals as goal

pub returns : goal.returns
returns c =
    all_laid_out (map concept_tree c.args.concepts.now) c.requires.kept c.args.asked c.as_slice.result.now
    (subst (AreMarked (map concept_tree c.args.concepts.now) c.args.asked) (sym c.as_slice.ensures) c.in_ok-marks.ensures)
    c.in_ok-layouts.layouts c.in_ok-layouts.ensures.laid c.in_ok-layouts.ensures.count
