-- The rules of concepts of a file, in the order of the text: the verdict is the first fault.
use Rattle.std.specs.Prelude.{ℕ, ◌+◌, List, [], ◌∷◌, ◌++◌, length, reverse, Bool, false, ◌||◌, not, ◌&&◌, nat_le, Ok}
use Rattle.std.specs.List.{list_any}
use Rattle.body_lang.specs.Verdicts.{Verdict, and_then, fault_unless}
use Rattle.utopist_syntax.specs.Named.{Named}
use Rattle.utopist_syntax.specs.declared.compute.Compute.{Compute}
use Rattle.utopist_syntax.specs.FileTree.{ItemTree, ConceptTree, FileTree}
use Rattle.concept_rules.specs.declared.fault.Rule.TheVariants as rule
use Rattle.concept_rules.specs.declared.fault.Limit.TheVariants as limit
use Rattle.concept_rules.specs.declared.fault.ModelFault.{ModelFault}
use Rattle.concept_rules.specs.Limits.{max_concepts}
use Rattle.concept_rules.specs.Paths.{given_paths}
use Rattle.concept_rules.specs.Declarations.{is_among, is_declared, names_of}
use Rattle.concept_rules.specs.Lineage.{concept_names, take_concept, take_parent, lineage, all_items, effective_items, inherited_items}
use Rattle.concept_rules.specs.PathRules.{broken_at, numeric_paths}
use Rattle.concept_rules.specs.ItemRules.{known_concept, item_fault}

-- some name that these items declare is declared by those too
abbrev pub share_name : List ItemTree → List ItemTree → Bool
share_name items others = list_any (is_declared others) (names_of items)

-- a concept isn't taken yet, and an item of it declares a name that a taken one declares
abbrev pub brings_name : List ConceptTree → ConceptTree → Bool
brings_name taken c =
    not (is_among c.name.text (concept_names taken)) && share_name c.items (all_items taken)

-- so does one of these concepts, where those before it are taken
abbrev pub brings_names : List ConceptTree → List ConceptTree → Bool
brings_names taken [] = false
brings_names taken (c ∷ line) = brings_name taken c || brings_names (take_concept taken c) line

-- a parent brings no item of whose name there is one already
abbrev pub new_items : Named → Bool → Verdict ModelFault
new_items p brings = fault_unless (not brings) (broken_at p rule.DuplicateName)

-- a parent behind others, which have brought these concepts
abbrev pub parent_fault : List ConceptTree → List ConceptTree → Named → Verdict ModelFault
parent_fault earlier taken p =
    and_then (known_concept earlier p) (new_items p (brings_names taken (lineage earlier p.text)))

-- parents, one behind the other
abbrev pub parents_fault : List ConceptTree → List ConceptTree → List Named → Verdict ModelFault
parents_fault earlier taken [] = Ok tt
parents_fault earlier taken (p ∷ ps) =
    and_then (parent_fault earlier taken p)
    (parents_fault earlier (take_parent (lineage earlier) taken p) ps)

-- items, one behind the other
abbrev pub items_fault : List ConceptTree → List ItemTree → List ItemTree → Verdict ModelFault
items_fault earlier before [] = Ok tt
items_fault earlier before (i ∷ items) =
    and_then (item_fault earlier before i) (items_fault earlier (before ++ i ∷ []) items)

-- the name of a concept
abbrev pub concept_name_fault : List ConceptTree → Named → Verdict ModelFault
concept_name_fault earlier n =
    and_then
    (fault_unless (nat_le (length earlier + 1) max_concepts)
    (broken_at n (rule.TooMany limit.Concepts)))
    (fault_unless (not (is_among n.text (concept_names earlier))) (broken_at n rule.DuplicateName))

-- a concept behind these, the latest of which stands first
abbrev pub concept_fault : List ConceptTree → ConceptTree → Verdict ModelFault
concept_fault earlier c =
    and_then (concept_name_fault earlier c.name)
    (and_then (parents_fault earlier [] c.parents)
    (items_fault earlier (inherited_items earlier c.parents) c.items))

-- concepts, one behind the other
abbrev pub concepts_fault : List ConceptTree → List ConceptTree → Verdict ModelFault
concepts_fault earlier [] = Ok tt
concepts_fault earlier (c ∷ cs) =
    and_then (concept_fault earlier c) (concepts_fault (c ∷ earlier) cs)

-- what a compute statement gives and asks for, among the effective items of its concept
abbrev pub goal_fault : List ConceptTree → List ItemTree → Compute → Verdict ModelFault
goal_fault concepts items c =
    and_then (numeric_paths concepts items (given_paths c.givens))
    (numeric_paths concepts items c.wants)

-- a compute statement behind so many others, where there may be no more than the most
abbrev pub compute_fault : ℕ → List ConceptTree → ℕ → Compute → Verdict ModelFault
compute_fault most concepts before c =
    and_then
    (fault_unless (nat_le (before + 1) most) (broken_at c.name (rule.TooMany limit.Computes)))
    (and_then (known_concept concepts c.name)
    (goal_fault concepts (effective_items concepts c.name.text) c))

-- compute statements, one behind the other
abbrev pub computes_fault : ℕ → List ConceptTree → ℕ → List Compute → Verdict ModelFault
computes_fault most concepts before [] = Ok tt
computes_fault most concepts before (c ∷ cs) =
    and_then (compute_fault most concepts before c) (computes_fault most concepts (before + 1) cs)

-- the first rule of concepts that a file breaks, where it may have so many compute statements
abbrev pub file_fault : ℕ → FileTree → Verdict ModelFault
file_fault most f =
    and_then (concepts_fault [] f.concepts) (computes_fault most (reverse f.concepts) 0 f.computes)
