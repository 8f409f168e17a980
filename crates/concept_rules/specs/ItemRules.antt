-- The rules on an item, in the order of the text.
use Rattle.std.specs.Prelude.{ℕ, List, [], ◌∷◌, ◌++◌, length, ◌||◌, not, Option, Some, None, Ok}
use Rattle.body_lang.specs.declared.arity.Arity.{Arity}
use Rattle.body_lang.specs.Verdicts.{Verdict, and_then, fault_unless}
use Rattle.name_sets.specs.Paths.{texts}
use Rattle.concept_rules.specs.Declarations.{is_among, is_declared}
use Rattle.utopist_syntax.specs.Named.{Named}
use Rattle.utopist_syntax.specs.declared.item.VarKind.{VarKind}
use Rattle.utopist_syntax.specs.declared.item.VarKind.TheVariants.{Numeric, Of}
use Rattle.utopist_syntax.specs.declared.item.Part.{Part}
use Rattle.utopist_syntax.specs.declared.item.Part.TheVariants.{Input, Subtask}
use Rattle.utopist_syntax.specs.ExprTree.{ExprTree, num, path, neg, op, choice, loop, call}
use Rattle.utopist_syntax.specs.FileTree.{ItemTree, var, eq, rel, ConceptTree}
use Rattle.concept_rules.specs.declared.fault.Rule.TheVariants as rule
use Rattle.concept_rules.specs.declared.fault.ModelFault.{ModelFault}
use Rattle.concept_rules.specs.Lineage.{concept_names}
use Rattle.concept_rules.specs.PathRules.{broken_at, numeric_path, numeric_paths}
use Rattle.concept_rules.specs.BindRules.{binds_fault}
use Rattle.concept_rules.specs.BodyFault.{expr_fault}

-- the name is none that these items declare, and none of these
abbrev pub new_name : List ItemTree → List (List ℕ) → Named → Verdict ModelFault
new_name items others n =
    fault_unless (not (is_declared items n.text || is_among n.text others))
    (broken_at n rule.DuplicateName)

-- none of the names is declared before, by these items or among these names
abbrev pub new_names : List ItemTree → List (List ℕ) → List Named → Verdict ModelFault
new_names items others [] = Ok tt
new_names items others (n ∷ ns) =
    and_then (new_name items others n) (new_names items (others ++ n.text ∷ []) ns)

-- the name is that of a concept
abbrev pub known_concept : List ConceptTree → Named → Verdict ModelFault
known_concept concepts n =
    fault_unless (is_among n.text (concept_names concepts)) (broken_at n rule.UnknownConcept)

-- the type of variables is known
abbrev pub known_kind : List ConceptTree → VarKind → Verdict ModelFault
known_kind concepts Numeric = Ok tt
known_kind concepts (Of type) = known_concept concepts type

-- each path of a side of an equation is numeric; other forms don't stand there
abbrev pub side_fault : List ConceptTree → List ItemTree → ExprTree → Verdict ModelFault
side_fault concepts items (num n) = Ok tt
side_fault concepts items (path names) = numeric_path concepts items names
side_fault concepts items (neg a) = side_fault concepts items a
side_fault concepts items (op o a b) =
    and_then (side_fault concepts items a) (side_fault concepts items b)
side_fault concepts items (choice c a b t e) = Ok tt
side_fault concepts items (loop kind n a b e) = Ok tt
side_fault concepts items (call k out place args) = Ok tt

-- the paths of a part of a relation
abbrev pub part_fault : List ConceptTree → List ItemTree → Part → Verdict ModelFault
part_fault concepts items (Input p) = numeric_path concepts items p.parts
part_fault concepts items (Subtask inputs outputs) =
    and_then (numeric_paths concepts items inputs) (numeric_paths concepts items outputs)

-- parts of a relation, one behind the other
abbrev pub parts_fault : List ConceptTree → List ItemTree → List Part → Verdict ModelFault
parts_fault concepts items [] = Ok tt
parts_fault concepts items (p ∷ parts) =
    and_then (part_fault concepts items p) (parts_fault concepts items parts)

-- the plain inputs among these parts, as they are spelled
abbrev pub spelled_inputs : List Part → List (List (List ℕ))
spelled_inputs [] = []
spelled_inputs (Input p ∷ parts) = texts p.parts ∷ spelled_inputs parts
spelled_inputs (Subtask inputs outputs ∷ parts) = spelled_inputs parts

-- what each subtask among them takes and gives
abbrev pub arities_of : List Part → List Arity
arities_of [] = []
arities_of (Input p ∷ parts) = arities_of parts
arities_of (Subtask inputs outputs ∷ parts) =
    record { inputs = length inputs; outputs = length outputs } ∷ arities_of parts

-- the body of a relation of these parts, behind items of which it is the last itself
abbrev pub body_fault : List ItemTree → List Part → Option ExprTree → Verdict ModelFault
body_fault items parts None = Ok tt
body_fault items parts (Some e) = expr_fault (record {
  items = items;
  around = [];
  inputs = spelled_inputs parts;
  arities = arities_of parts;
  rounds = [];
}) e

-- an item behind these items, and behind these concepts
abbrev pub item_fault : List ConceptTree → List ItemTree → ItemTree → Verdict ModelFault
item_fault concepts items (var names kind binds) =
    and_then (new_names items [] names)
    (and_then (known_kind concepts kind) (binds_fault concepts items kind [] binds))
item_fault concepts items (eq left right) =
    and_then (side_fault concepts items left) (side_fault concepts items right)
item_fault concepts items (rel n parts output body) =
    and_then (new_name items [] n)
    (and_then (parts_fault concepts items parts)
    (and_then (numeric_path concepts items output.parts)
    (body_fault (items ++ rel n parts output body ∷ []) parts body)))
