-- Files whose canonical text is read as the same file.
use Rattle.std.specs.Prelude.{◌≡◌}
use Rattle.utopist_syntax.specs.declared.file.File.{File}
use Rattle.utopist_syntax.specs.FileTree.{FileTree, file_tree}
use Rattle.utopist_syntax.specs.Canonical.{canonical}
use Rattle.utopist_parser.specs.Forms.{ReadsAs}
use Rattle.canonical_reading.specs.Unplaced.{unplaced}

-- the canonical text of a file reads as a tree, which is the file's own but for places
abbrev pub IsReadBack : File → Type 0
IsReadBack f = (g : FileTree) × ReadsAs (canonical f) g × (unplaced g ≡ unplaced (file_tree f))
