-- The rules of unfolding: the limits of a problem, and no variable given twice; and all rules of a file.
use Rattle.std.specs.Prelude.{ℕ, ◌+◌, List, [], ◌∷◌, ◌++◌, length, not, Ok}
use Rattle.std.specs.List.{sum_by}
use Rattle.body_lang.specs.Verdicts.{Verdict, and_then, fault_unless}
use Rattle.utopist_syntax.specs.Named.{Named}
use Rattle.utopist_syntax.specs.declared.compute.Compute.{Compute}
use Rattle.utopist_syntax.specs.FileTree.{ItemTree, var, eq, rel, FileTree}
use Rattle.concept_rules.specs.declared.fault.Rule.TheVariants as rule
use Rattle.concept_rules.specs.declared.fault.Limit.TheVariants as limit
use Rattle.concept_rules.specs.declared.fault.ModelFault.{ModelFault}
use Rattle.concept_rules.specs.Limits.{max_computes}
use Rattle.concept_rules.specs.Declarations.{is_among}
use Rattle.concept_rules.specs.PathRules.{broken_at}
use Rattle.concept_rules.specs.ConceptRules.{file_fault}
use Rattle.path_limits.specs.PathLimits.{within_limit}
use Rattle.concept_unfold.specs.Limits.{max_paths, max_statements}
use Rattle.concept_walk.specs.Limits.{max_variables, max_size}
use Rattle.concept_unfold.specs.Paths.{inputs_of, given_names}
use Rattle.concept_unfold.specs.Nodes.{body_nodes}
use Rattle.concept_unfold.specs.Declarations.{all_variables, items_of}

-- how much an item adds to the size of a problem, of the forms that are built
abbrev pub item_size : ItemTree → ℕ
item_size (var names kind binds) = 0
item_size (eq left right) = 0
item_size (rel name parts output body) = 1 + length (inputs_of parts) + body_nodes body

-- how many statements an item gives, of these forms
abbrev pub item_statements : ItemTree → ℕ
item_statements (var names kind binds) = 0
item_statements (eq left right) = 0
item_statements (rel name parts output body) = 1

-- the limits of a problem of these items, at the name of its compute statement; each declared path is a variable
abbrev pub limits_fault : Named → List ItemTree → Verdict ModelFault
limits_fault n items =
    and_then (within_limit n limit.Paths max_paths (length (all_variables items)))
    (and_then (within_limit n limit.Variables max_variables (length (all_variables items)))
    (and_then (within_limit n limit.Size max_size (sum_by item_size items))
    (within_limit n limit.Statements max_statements (sum_by item_statements items))))

-- none of these variables is given twice, or was given before by one of these names
abbrev pub once_fault : List (List ℕ) → List Named → Verdict ModelFault
once_fault before [] = Ok tt
once_fault before (n ∷ ns) =
    and_then (fault_unless (not (is_among n.text before)) (broken_at n rule.DuplicateInput))
    (once_fault (before ++ n.text ∷ []) ns)

-- the rules of unfolding of a compute statement
abbrev pub unfolding_fault : FileTree → Compute → Verdict ModelFault
unfolding_fault f c =
    and_then (limits_fault c.name (items_of f.concepts c.name.text))
    (once_fault [] (given_names c.givens))

-- of compute statements, one behind the other
abbrev pub unfoldings_fault : FileTree → List Compute → Verdict ModelFault
unfoldings_fault f [] = Ok tt
unfoldings_fault f (c ∷ cs) = and_then (unfolding_fault f c) (unfoldings_fault f cs)

-- the first rule that a file breaks, of concepts or behind them of unfolding
abbrev pub model_fault : FileTree → Verdict ModelFault
model_fault f = and_then (file_fault max_computes f) (unfoldings_fault f f.computes)
