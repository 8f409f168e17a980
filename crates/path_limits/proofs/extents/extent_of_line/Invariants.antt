use Rattle.std.proofs.Common.{◌≡◌, List, take}
use Rattle.std.specs.List.{flat_map}
use Rattle.utopist_syntax.specs.FileTree.{ConceptTree}
use Rattle.canonical_paths.specs.PathNames.{PathNames}
use Rattle.path_limits.specs.Extents.{extent_of}
use Rattle.path_limits.specs.steps.Measured.{AreOf}
use Rattle.path_limits.proofs.extents.extent_of_line.Given as goal

abbrev pub invariant-loop-which : goal.invariant-loop-which
invariant-loop-which l =
    (paths : ConceptTree → List PathNames) (cs : List ConceptTree)
    → AreOf paths l.own (take l.which-index l.line) cs → l.extent ≡ extent_of (flat_map paths cs)
