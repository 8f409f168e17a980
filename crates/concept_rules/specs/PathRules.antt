-- The rules on a path: it is known, and its type is numeric.
use Rattle.std.specs.Prelude.{List, [], ◌∷◌, Option, Some, None, Ok, Err}
use Rattle.body_lang.specs.Verdicts.{Verdict, and_then}
use Rattle.utopist_syntax.specs.Named.{Named}
use Rattle.utopist_syntax.specs.declared.path.Path.{Path}
use Rattle.utopist_syntax.specs.declared.item.VarKind.{VarKind}
use Rattle.utopist_syntax.specs.declared.item.VarKind.TheVariants.{Numeric, Of}
use Rattle.utopist_syntax.specs.FileTree.{ItemTree, ConceptTree}
use Rattle.concept_rules.specs.declared.fault.Rule.{Rule}
use Rattle.concept_rules.specs.declared.fault.Rule.TheVariants as rule
use Rattle.concept_rules.specs.declared.fault.ModelFault.{ModelFault}
use Rattle.concept_rules.specs.Paths.{first_of}
use Rattle.concept_rules.specs.Kinds.{kind_of_path}

-- this rule is broken, at this name
abbrev pub broken_at : Named → Rule → ModelFault
broken_at n r = record { place = n.place; rule = r }

-- these names are a path of this type, which is numeric
abbrev pub numeric_kind : List Named → Option VarKind → Verdict ModelFault
numeric_kind names None = Err (broken_at (first_of names) rule.UnknownPath)
numeric_kind names (Some Numeric) = Ok tt
numeric_kind names (Some (Of type)) = Err (broken_at (first_of names) rule.NotNumeric)

-- the path is known behind these items, and numeric
abbrev pub numeric_path : List ConceptTree → List ItemTree → List Named → Verdict ModelFault
numeric_path concepts items names = numeric_kind names (kind_of_path concepts items names)

-- each of these paths, one behind the other
abbrev pub numeric_paths : List ConceptTree → List ItemTree → List Path → Verdict ModelFault
numeric_paths concepts items [] = Ok tt
numeric_paths concepts items (p ∷ paths) =
    and_then (numeric_path concepts items p.parts) (numeric_paths concepts items paths)
