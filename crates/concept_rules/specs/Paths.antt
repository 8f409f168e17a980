-- Paths of variables.
use Rattle.std.specs.Prelude.{List, [], ◌∷◌, map}
use Rattle.utopist_syntax.specs.Named.{Named}
use Rattle.utopist_syntax.specs.declared.path.Path.{Path}
use Rattle.utopist_syntax.specs.declared.compute.GivenPath.{GivenPath}

-- the first of these names, or an empty one at the start of the text where there is none
abbrev pub first_of : List Named → Named
first_of [] = record { text = []; place = record { at = 0; line = 1; col = 1 } }
first_of (n ∷ ns) = n

-- the paths that are given
abbrev pub given_paths : List GivenPath → List Path
given_paths gs = map (λ g. g.path) gs
