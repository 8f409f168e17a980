-- Files that keep the rules of concepts, and files that break one.
use Rattle.std.specs.Prelude.{◌≡◌, ℕ, List, Ok, Err}
use Rattle.utopist_syntax.specs.FileTree.{FileTree}
use Rattle.utopist_parser.specs.Forms.{ReadsAs}
use Rattle.concept_rules.specs.Limits.{max_computes}
use Rattle.concept_rules.specs.ConceptRules.{file_fault}
use Rattle.concept_rules.specs.declared.fault.ModelFault.{ModelFault}

-- the bytes are a file that breaks no rule of concepts
abbrev pub KeepsRules : List ℕ → Type 0
KeepsRules bytes = (f : FileTree) × ReadsAs bytes f × (file_fault max_computes f ≡ Ok tt)

-- the bytes are a file that breaks one
abbrev pub BreaksRule : List ℕ → Type 0
BreaksRule bytes =
    (f : FileTree) × (fault : ModelFault) × ReadsAs bytes f × (file_fault max_computes f ≡ Err fault)
