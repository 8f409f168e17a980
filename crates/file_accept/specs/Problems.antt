-- The problems of a text.
use Rattle.std.specs.Prelude.{◌≡◌, ℕ, List, map, Result, Ok, Err}
use Rattle.utopist_syntax.specs.FileTree.{FileTree}
use Rattle.statement_set.specs.Problem.{Task}
use Rattle.concept_unfold.specs.Unfolded.{problem_of}
use Rattle.file_accept.specs.declared.fault.FileFault.{FileFault}
use Rattle.file_accept.specs.declared.fault.FileFault.TheVariants as fault
use Rattle.file_accept.specs.Accepted.{Accepts}
use Rattle.file_accept.specs.Refused.{Refuses}

-- the problems of a file's compute statements, in order
abbrev pub problems_of : FileTree → List Task
problems_of f = map (problem_of f) f.computes

-- the problems of the file that the text is accepted as, or why it is refused
abbrev pub ProblemsOf : List ℕ → Result (List Task) FileFault → Type 0
ProblemsOf text (Ok problems) = (f : FileTree) × Accepts text f × (problems ≡ problems_of f)
ProblemsOf text (Err fault.NoMem) = Unit {0}
ProblemsOf text (Err e) = Refuses text e
