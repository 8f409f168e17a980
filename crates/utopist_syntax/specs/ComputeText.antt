-- The text of a compute statement.
use Rattle.std.specs.Prelude.{ℕ, List, [], ◌∷◌, ◌++◌, codes, Option, Some, None}
use Rattle.std.specs.List.{join_by}
use Rattle.priz_frac.specs.Ratio.{Ratio}
use Rattle.utopist_syntax.specs.declared.compute.Compute.{Compute}
use Rattle.utopist_syntax.specs.declared.compute.GivenPath.{GivenPath}
use Rattle.utopist_syntax.specs.PathText.{path_text, paths_text}
use Rattle.utopist_syntax.specs.FractionText.{fraction_text}

-- nothing, or "=" and the fraction
abbrev pub value_text : Option Ratio → List ℕ
value_text None = []
value_text (Some x) = codes " = " ++ fraction_text x

-- a path, with its value if it has one
abbrev pub given_text : GivenPath → List ℕ
given_text g = path_text g.path ++ value_text g.value

-- nothing, or "given" and what is given
abbrev pub givens_text : List GivenPath → List ℕ
givens_text [] = []
givens_text (g ∷ more) = codes "given " ++ (join_by given_text (codes ", ") (g ∷ more) ++ codes "; ")

-- a compute statement, on one line
abbrev pub compute_text : Compute → List ℕ
compute_text c =
    (codes "compute " ++ (c.name.text ++ codes " : ( ")) ++ (givens_text c.givens ++ (codes "find " ++ (paths_text c.wants ++ codes " );\n")))
