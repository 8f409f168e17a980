-- The file that a text reads as, if its forms are built.
use Rattle.std.specs.Prelude.{ℕ, List, Result, Ok, Err}
use Rattle.utopist_syntax.specs.declared.file.File.{File}
use Rattle.utopist_syntax.specs.FileTree.{file_tree}
use Rattle.utopist_parser.specs.Forms.{ReadsAs}
use Rattle.concept_unfold.specs.Built.{IsBuilt}
use Rattle.file_accept.specs.declared.fault.FileFault.{FileFault}
use Rattle.file_accept.specs.declared.fault.FileFault.TheVariants as fault
use Rattle.file_accept.specs.Refused.{Refuses}

-- the file, or why there is none
abbrev pub FormOf : List ℕ → Result File FileFault → Type 0
FormOf text (Ok f) = ReadsAs text (file_tree f) × IsBuilt (file_tree f)
FormOf text (Err fault.NoMem) = Unit {0}
FormOf text (Err e) = Refuses text e
