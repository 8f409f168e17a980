-- The text of names and paths.
use Rattle.std.specs.Prelude.{ℕ, List, codes}
use Rattle.std.specs.List.{join_by}
use Rattle.utopist_syntax.specs.Named.{Named}
use Rattle.utopist_syntax.specs.declared.path.Path.{Path}

-- names with a text between each two
abbrev pub names_text : List ℕ → List Named → List ℕ
names_text between names = join_by (λ n. n.text) between names

-- names joined by dots
abbrev pub path_text : Path → List ℕ
path_text p = names_text (codes ".") p.parts

-- paths joined by commas
abbrev pub paths_text : List Path → List ℕ
paths_text paths = join_by path_text (codes ", ") paths
