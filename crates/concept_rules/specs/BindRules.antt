-- The rules on the bindings of variables, in the order of the text.
use Rattle.std.specs.Prelude.{ℕ, List, [], ◌∷◌, ◌++◌, Bool, ◌||◌, not, is_some, Option, Some, None, Ok, false}
use Rattle.body_lang.specs.Verdicts.{Verdict, and_then, fault_unless}
use Rattle.name_sets.specs.Paths.{texts}
use Rattle.utopist_syntax.specs.Named.{Named}
use Rattle.utopist_syntax.specs.declared.item.VarKind.{VarKind}
use Rattle.utopist_syntax.specs.declared.item.Bind.{Bind}
use Rattle.utopist_syntax.specs.FileTree.{ItemTree, ConceptTree}
use Rattle.concept_rules.specs.declared.fault.Rule.TheVariants as rule
use Rattle.concept_rules.specs.declared.fault.ModelFault.{ModelFault}
use Rattle.concept_rules.specs.Paths.{first_of}
use Rattle.concept_rules.specs.Kinds.{kind_along, kind_of_path, is_same_kind}
use Rattle.concept_rules.specs.Overlap.{is_overlapping}
use Rattle.concept_rules.specs.PathRules.{broken_at}

-- there is a type, or else the path is unknown
abbrev pub known_path : List Named → Option VarKind → Verdict ModelFault
known_path names kind = fault_unless (is_some kind) (broken_at (first_of names) rule.UnknownPath)

-- there are two types, and they differ
abbrev pub are_other_kinds : Option VarKind → Option VarKind → Bool
are_other_kinds (Some kind) (Some other) = not (is_same_kind kind other)
are_other_kinds (Some kind) None = false
are_other_kinds None other = false

-- where these paths of the item are bound before, the left path of a binding of variables of this type
-- doesn't overlap, and both of its paths have one type, where both are known
abbrev pub fitting_sides :
    List ConceptTree → List ItemTree → VarKind → List (List (List ℕ)) → Bind → Verdict ModelFault
fitting_sides concepts items kind bound b =
    fault_unless
    (not (is_overlapping concepts kind bound b.left.parts
    || are_other_kinds (kind_along concepts kind b.left.parts)
    (kind_of_path concepts items b.right.parts)))
    (broken_at (first_of b.left.parts) rule.BadBinding)

-- a binding of variables of this type, where these paths of the item are bound before
abbrev pub bind_fault :
    List ConceptTree → List ItemTree → VarKind → List (List (List ℕ)) → Bind → Verdict ModelFault
bind_fault concepts items kind bound b =
    and_then (known_path b.left.parts (kind_along concepts kind b.left.parts))
    (and_then (fitting_sides concepts items kind bound b)
    (known_path b.right.parts (kind_of_path concepts items b.right.parts)))

-- bindings, one behind the other
abbrev pub binds_fault :
    List ConceptTree → List ItemTree → VarKind → List (List (List ℕ)) → List Bind
    → Verdict ModelFault
binds_fault concepts items kind bound [] = Ok tt
binds_fault concepts items kind bound (b ∷ binds) =
    and_then (bind_fault concepts items kind bound b)
    (binds_fault concepts items kind (bound ++ texts b.left.parts ∷ []) binds)
