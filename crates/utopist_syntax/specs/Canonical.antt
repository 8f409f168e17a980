-- The canonical text of a file.
use Rattle.std.specs.Prelude.{ℕ, List, ◌++◌}
use Rattle.std.specs.List.{flat_map}
use Rattle.utopist_syntax.specs.declared.file.File.{File}
use Rattle.utopist_syntax.specs.ConceptText.{concept_text}
use Rattle.utopist_syntax.specs.ComputeText.{compute_text}

-- the concepts, and then the compute statements
abbrev pub canonical : File → List ℕ
canonical f = flat_map concept_text f.concepts ++ flat_map compute_text f.computes
